-- The gate, the order and the length at chosen numbers, computed.
use Prim.Native.Nat.{ℕ}
use mathlib.Core.Path.{◌≡◌, refl}
use mathlib.Core.Bool.{Bool, true, false}
use mathlib.Core.List.{List, [], ◌∷◌}
use lib.ListN.{get_or, replicate}
use lib.Ieee.{le, div, of_int, of_bits}
use Rattle.storage.specs.Runs.{start}
use Rattle.layout.specs.declared.Layout.{Layout}
use Rattle.std.specs.Prelude.{Ok, Err}
use Rattle.layout.specs.declared.Storage.TheVariants.{Dense, Sparse}
use Rattle.layout.specs.Blocks.{insert, sorted}
use Rattle.layout.specs.Gate.{numbered, thin, pair_of}
use Rattle.layout.specs.Shapes.{shape, loaded_shape, Target, factors, across, pairs, targets, cells_of, before, loaded_at, working_at, sum_at, cross_cells, factor_cells, doubles_needed, doubles_formula, triangle_end}
use Rattle.layout.proofs.Made.{layout_with}

-- f of each block of a list
abbrev each : (Target → ℕ) → List Target → List ℕ
each f [] = []
each f (t ∷ l) = f t ∷ each f l

-- 100,000 cells are dense, whatever the entries
pub at_most_dense : (one_each : Bool) (entries : ℕ) → pair_of 2 2 50000 one_each entries ≡ Ok Dense
unfolding pair_of
at_most_dense one_each entries = refl

-- 100,002 cells of which half are entries
pub too_full : numbered (pair_of 2 2 50001 true 50001) ≡ Err 11
unfolding pair_of le div of_int of_bits
too_full = refl

-- 100,002 cells of which a third are entries
pub thin_pair : pair_of 2 3 33334 true 33334 ≡ Ok Sparse
unfolding pair_of le div of_int of_bits
thin_pair = refl

-- the same among three blocks
pub three_blocks : numbered (pair_of 3 3 33334 true 33334) ≡ Err 10
unfolding pair_of
three_blocks = refl

-- the same with a column of more or fewer entries
pub not_one_each : numbered (pair_of 2 3 33334 false 33334) ≡ Err 11
unfolding pair_of
not_one_each = refl

pub square : (one_each : Bool) (entries : ℕ) → pair_of 2 316 316 one_each entries ≡ Ok Dense
unfolding pair_of
square one_each entries = refl

-- 7 / 20 is the double 0.35 itself
pub thin_seven : thin 7 20 ≡ true
unfolding le div of_int of_bits
thin_seven = refl

pub thin_more : thin 36 100 ≡ false
unfolding le div of_int of_bits
thin_more = refl

-- levels 2, 5, 2, 5: the larger first, and equal ones in sheet order
pub order_of_four : sorted (λ i. get_or (2 ∷ 5 ∷ 2 ∷ 5 ∷ []) i 0) 4 ≡ 1 ∷ 3 ∷ 0 ∷ 2 ∷ []
unfolding sorted insert
order_of_four = refl

-- one block of one level and one fixed effect
abbrev one : Layout
one = layout_with 3 1 1 1 (1 ∷ replicate 7 0) (replicate 8 0) false false

pub fourteen : (doubles_needed one ≡ 14) × (doubles_formula one ≡ 14)
unfolding sum_at triangle_end cross_cells factor_cells targets factors pairs across cells_of shape loaded_shape start
fourteen = (refl, refl)

-- three and two levels and one fixed effect: five diagonals, six cells of the pair, ten of the fixed rows and three of the last triangle are loaded
abbrev pub two : Bool → Layout
two diagonal = layout_with 9 1 5 2 (3 ∷ 2 ∷ replicate 6 0) (0 ∷ 1 ∷ replicate 6 0) false diagonal

pub fifty_two : (doubles_needed (two false) ≡ 52) × (doubles_formula (two false) ≡ 52) × (doubles_needed (two true) ≡ 51) × (doubles_formula (two true) ≡ 51)
unfolding sum_at triangle_end cross_cells factor_cells targets factors pairs across cells_of shape loaded_shape start
fifty_two = (refl, refl, refl, refl)

-- where its blocks are loaded: the factors, the pair, the fixed rows, the last triangle
pub loaded_places : each (λ t. loaded_at (two false) t.row t.col) (targets 2) ≡ 0 ∷ 3 ∷ 5 ∷ 11 ∷ 17 ∷ 21 ∷ []
unfolding loaded_at targets factors pairs across before shape loaded_shape start
loaded_places = refl

-- and where they work, behind two doubles of theta
pub working_places : each (λ t. working_at (two false) t.row t.col) (targets 2) ≡ 26 ∷ 29 ∷ 32 ∷ 38 ∷ 44 ∷ 48 ∷ []
unfolding working_at triangle_end targets factors pairs across cells_of before shape loaded_shape start
working_places = refl

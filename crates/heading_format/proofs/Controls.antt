-- The heading and number 20 at chosen numbers, computed.
use Prim.Native.Nat.{ℕ, ◌≤◌, ◌<◌}
use mathlib.Core.Path.{◌≡◌, refl}
use mathlib.Core.Bool.{Bool, true, false}
use mathlib.Core.List.{List, [], ◌∷◌, ◌++◌}
use native.Mathlib.Omega.{arith}
use lib.ListN.{length, get_or, take, replicate}
use lib.Ieee.{le, div, of_int, of_bits}
use Rattle.storage.specs.Runs.{start}
use Rattle.step_order.specs.Steps.{rust_order}
use Rattle.layout.specs.declared.Layout.{Layout}
use Rattle.heading_format.specs.declared.Progress.{Progress}
use Rattle.layout.specs.Blocks.{insert, sorted, sum, padded}
use Rattle.layout.specs.Gate.{pair_of}
use Rattle.heading_format.specs.Heading.{layout_numbers, progress_numbers, written, layout_of, progress_of, entry_row, every, same, sheet_levels, valid_layout, valid_progress, idle, valid_heading}
use Rattle.layout.specs.Shapes.{shape, loaded_shape, factors, across, pairs, targets, cells_of, sum_at, cross_cells, factor_cells, doubles_needed, triangle_end}
use Rattle.layout.proofs.Controls.{two}
use Rattle.heading_format.proofs.Heading.{rows_back, never_20, sparse_row_refused, idle_valid}
use Rattle.heading_format.specs.Parts.{most_targets, unused_numbers}
use Rattle.layout.proofs.Made.{layout_with}

-- the row of the second sparse column, whatever the progress
pub second_row : (g : Progress) → entry_row (written (two false) g ++ (7 ∷ 8 ∷ [])) 1 ≡ 8
unfolding written layout_numbers progress_numbers padded
second_row g = refl

-- both layouts are valid
pub valid_two : (valid_layout (two false) ≡ true) × (valid_layout (two true) ≡ true)
unfolding valid_layout every same sheet_levels sorted insert sum pair_of
valid_two = (refl, refl)

-- a layout whose blocks are not sorted is not, nor one that says another q
pub invalid : (valid_layout (layout_with 9 1 5 2 (2 ∷ 3 ∷ replicate 6 0) (0 ∷ 1 ∷ replicate 6 0) false false) ≡ false)
    × (valid_layout (layout_with 9 1 6 2 (3 ∷ 2 ∷ replicate 6 0) (0 ∷ 1 ∷ replicate 6 0) false false) ≡ false)
unfolding valid_layout every same sheet_levels sorted insert sum pair_of
invalid = (refl, refl)

-- ---- number 20 at numbers of two blocks, written out

-- the steps C(0), T(1,0), S(1,1,0), C(1), T(2,0), S(2,1,0), T(2,1), S(2,2,0), S(2,2,1), C(2), by the stages of (0,0), (1,0), (1,1), (2,0), (2,1), (2,2)
abbrev undone : List ℕ
undone = replicate most_targets 0

abbrev first_done : List ℕ
first_done = 1 ∷ replicate 44 0

abbrev all_done : List ℕ
all_done = (1 ∷ 1 ∷ 2 ∷ 1 ∷ 2 ∷ 3 ∷ []) ++ replicate 39 0

-- the counts n, p, q, k and the levels of two blocks that keep sheet order, neither sparse nor diagonal
abbrev counts : ℕ → ℕ → ℕ → ℕ → ℕ → ℕ → List ℕ
counts n p q k a b = (n ∷ p ∷ q ∷ k ∷ a ∷ b ∷ []) ++ replicate 6 0 ++ (0 ∷ 1 ∷ []) ++ replicate 8 0

abbrev heading : List ℕ → ℕ → ℕ → List ℕ → List ℕ
heading l state left stages = l ++ (state ∷ left ∷ []) ++ stages ++ replicate unused_numbers 0

-- those of the layout `two`
abbrev fair : List ℕ
fair = counts 9 1 5 2 3 2

-- none, under way with no step and with one step done, finished
pub accepted : (valid_heading (heading fair 0 10 undone) 52 ≡ true) × (valid_heading (heading fair 1 10 undone) 52 ≡ true) × (valid_heading (heading fair 1 9 first_done) 52 ≡ true)
    × (valid_heading (heading fair 2 0 all_done) 52 ≡ true)
unfolding valid_heading layout_of progress_of valid_layout valid_progress rust_order every same sheet_levels sorted insert sum pair_of sum_at triangle_end targets factors pairs across cells_of shape loaded_shape start
accepted = (refl, refl, refl, refl)

-- T(1,0) done and C(0) not
pub no_forerunner : valid_heading (heading fair 1 9 (0 ∷ 1 ∷ replicate 43 0)) 52 ≡ false
unfolding valid_heading layout_of progress_of valid_layout valid_progress rust_order every same sheet_levels sorted insert sum pair_of sum_at triangle_end targets factors pairs across cells_of shape loaded_shape start
no_forerunner = refl

-- none with a step done; finished with steps left; a fourth state
pub other_state : (valid_heading (heading fair 0 9 first_done) 52 ≡ false) × (valid_heading (heading fair 2 9 first_done) 52 ≡ false) × (valid_heading (heading fair 3 0 all_done) 52 ≡ false)
unfolding valid_heading layout_of progress_of valid_layout valid_progress rust_order every same sheet_levels sorted insert sum pair_of sum_at triangle_end targets factors pairs across cells_of shape loaded_shape start
other_state = (refl, refl, refl)

-- (0,0) past its last step; a step left too many
pub other_steps : (valid_heading (heading fair 2 0 ((2 ∷ 1 ∷ 2 ∷ 1 ∷ 2 ∷ 3 ∷ []) ++ replicate 39 0)) 52 ≡ false) × (valid_heading (heading fair 1 10 first_done) 52 ≡ false)
unfolding valid_heading layout_of progress_of valid_layout valid_progress rust_order every same sheet_levels sorted insert sum pair_of sum_at triangle_end targets factors pairs across cells_of shape loaded_shape start
other_steps = (refl, refl)

-- a double too few; a number too few
pub too_short : (valid_heading (heading fair 1 9 first_done) 51 ≡ false) × (valid_heading (take 127 (heading fair 1 9 first_done)) 52 ≡ false)
unfolding valid_heading layout_of progress_of valid_layout valid_progress rust_order every same sheet_levels sorted insert sum pair_of sum_at triangle_end targets factors pairs across cells_of shape loaded_shape start
too_short = (refl, refl)

-- q not the sum; blocks not sorted
pub other_blocks : (valid_heading (heading (counts 9 1 6 2 3 2) 1 9 first_done) 100 ≡ false) × (valid_heading (heading (counts 9 1 5 2 2 3) 1 9 first_done) 100 ≡ false)
unfolding valid_heading layout_of progress_of valid_layout valid_progress rust_order every same sheet_levels sorted insert sum pair_of sum_at triangle_end targets factors pairs across cells_of shape loaded_shape start
other_blocks = (refl, refl)

-- n = 0; p = 0; k = 0
pub zero_counts : (valid_heading (heading (counts 0 1 5 2 3 2) 1 9 first_done) 100 ≡ false) × (valid_heading (heading (counts 9 0 5 2 3 2) 1 9 first_done) 100 ≡ false)
    × (valid_heading (heading (counts 9 1 0 0 0 0) 1 1 undone) 100 ≡ false)
unfolding valid_heading layout_of progress_of valid_layout valid_progress rust_order every same sheet_levels sorted insert sum pair_of sum_at triangle_end targets factors pairs across cells_of shape loaded_shape start
zero_counts = (refl, refl, refl)

-- ---- a sparse pair of 3 × 33,334 cells

abbrev flagged : Bool → Bool → Layout
flagged sparse diagonal =
    layout_with 40000 1 33337 2 (33334 ∷ 3 ∷ replicate 6 0) (0 ∷ 1 ∷ replicate 6 0) sparse diagonal

abbrev thinned : Layout
thinned = flagged true true

abbrev small : Layout
small = layout_with 9 1 5 2 (3 ∷ 2 ∷ replicate 6 0) (0 ∷ 1 ∷ replicate 6 0) true true

pub valid_thinned : valid_layout thinned ≡ true
unfolding valid_layout every same sheet_levels sorted insert sum pair_of le div of_int of_bits
valid_thinned = refl

-- the same pair said to be dense, or its block 1 said to be a triangle; a pair of six cells said to be sparse
pub other_pair : (valid_layout (flagged false true) ≡ false) × (valid_layout (flagged true false) ≡ false) × (valid_layout small ≡ false)
unfolding valid_layout every same sheet_levels sorted insert sum pair_of le div of_int of_bits
other_pair = (refl, refl, refl)

-- X is 33,334 and D is 33,337
pub thinned_doubles : doubles_needed thinned ≡ 266699
unfolding sum_at triangle_end cross_cells factor_cells targets factors pairs across cells_of shape loaded_shape start
thinned_doubles = refl

-- its heading is accepted with 33,334 rows below 3 behind it, and refused with any other row
module _ (rows : List ℕ) where
  pub sparse_accepted : length rows ≡ 33334 → ((c : ℕ) → c < 33334 → get_or rows c 0 < 3) → valid_heading (written thinned (idle 2) ++ rows) 266699 ≡ true
  sparse_accepted e h =
      never_20 thinned (idle 2) rows 266699 valid_thinned (idle_valid 2 (omega arith)) refl refl refl (λ s. (omega arith, h)) (omega (arith, thinned_doubles))

  pub sparse_refused : (c : ℕ) → c < 33334 → 3 ≤ get_or rows c 0 → valid_heading (written thinned (idle 2) ++ rows) 266699 ≡ false
  unfolding layout_of written layout_numbers progress_numbers padded
  sparse_refused c l h =
      sparse_row_refused (written thinned (idle 2) ++ rows) 266699 c refl l (rw (rows_back thinned (idle 2) rows c) h)

-- a row too few
pub sparse_short : valid_heading (written thinned (idle 2) ++ replicate 33333 2) 266699 ≡ false
unfolding valid_heading layout_of progress_of written layout_numbers progress_numbers padded valid_layout valid_progress rust_order every same sheet_levels sorted insert sum pair_of start le div of_int of_bits
sparse_short = refl

-- What begin makes of a block of each kind, by the block's shape.
use Prim.Native.Nat.{ℕ, ◌+◌, ◌≤◌, ◌<◌}
use mathlib.Core.Path.{◌≡◌, refl, ap, ap₂, ◌∙◌}
use mathlib.Core.Bool.{Bool, true, false, cond}
use mathlib.Core.List.{List}
use native.Mathlib.Omega.{arith}
use lib.Dec.{eqb}
use lib.ListN.{length}
use lib.Ieee.{Float}
use borrow.Author.Tests.{eqb-true, eq-eqb, ne_eqb, le-ltb}
use Rattle.storage.specs.Shape.{Shape, fill}
use Rattle.storage.specs.Part.{part, store}
use Rattle.storage.specs.Placed.{Placed}
use Rattle.storage.proofs.Blocks.{length_fill}
use Rattle.rules.specs.Arithmetic.{ieee}
use Rattle.rules.specs.Begin.{diagonal_cell, cross_cell, fixed_cell}
use Rattle.layout.specs.declared.Layout.{Layout}
use Rattle.layout.specs.Shapes.{pick, shape, loaded_shape, sizes, loaded_sizes, loaded_at, working_at, sum_at, doubles_needed}
use Rattle.layout.proofs.Formula.{loaded_last}
use Rattle.layout.proofs.Places.{size_working, size_loaded, loaded_inside, working_behind, working_inside}
use Rattle.workspace.specs.Memory.{cell_of, sorted_theta}
use Rattle.re_factor.specs.Factor as factor
use Rattle.cross_block.specs.Blocks.{scaled_twice, scaled_once}
use Rattle.update.specs.Working.{scaled}
use Rattle.block_places.specs.Working.{working, placed}
use Rattle.block_places.proofs.block_kinds.Shapes.{loaded_pair}
use Rattle.block_places.proofs.Placing.{is_loaded_factor}
use Rattle.begin.specs.scaled_blocks.Scaled.{scaled_block}

-- ---- shapes

module _ (y : Layout) (row : ℕ → ℕ) where
  -- the last block is loaded as it works
  pub shape_last : loaded_shape y row y.k y.k ≡ shape y row y.k y.k
  unfolding loaded_shape
  shape_last = rw (eq-eqb y.k y.k refl, le-ltb y.k y.k (omega arith)) refl

-- ---- room: block (i, j) lies behind its loaded block, and both lie within the doubles
pub record Room (y : Layout) (len i j : ℕ) : Type 0 where
  pub working : working_at y i j + sizes y i j ≤ len
  pub loaded : loaded_at y i j + loaded_sizes y i j ≤ len
  pub apart : loaded_at y i j + loaded_sizes y i j ≤ working_at y i j

pub room : (y : Layout) (len : ℕ) → doubles_needed y ≤ len → (i j : ℕ) → j ≤ i → i ≤ y.k → Room y len i j
room y len fits i j h g =
    let a : working_at y i j + sizes y i j ≤ sum_at y = working_inside y i j h g in
    record {
      working = omega arith;
      loaded = omega (arith, loaded_inside y i j h g, working_behind y i j h g);
      apart = omega (arith, loaded_inside y i j h g, working_behind y i j h g);
    }

-- ---- blocks

module _ (y : Layout) (row : ℕ → ℕ) (t : List Float) where
  -- `started` by its tests and its shapes
  abbrev made : (last fixed own : Bool) (s d : Shape) (i j : ℕ) → List Float → List Float
  made last fixed own s d i j a =
      pick last a
      (fill s
      (pick fixed (λ r c. fixed_cell ieee (sorted_theta y t j) (cell_of d a r c))
      (pick own (λ r c. cond (eqb r c) (diagonal_cell ieee (sorted_theta y t j) (cell_of d a r r)) ieee.zero) (λ r c. cross_cell ieee (sorted_theta y t j) (sorted_theta y t i) (cell_of d a r c)))))

  pub is_made : (loaded : ℕ → ℕ → Bool) (i j : ℕ) (a : List Float)
      → scaled y row loaded t i j a ≡ made (eqb j y.k) (eqb i y.k) (eqb i j) (shape y row i j) (loaded_shape y row i j) i j a
  unfolding scaled
  is_made loaded i j a = refl

  module _ (i j : ℕ) (v : List Float) where
    abbrev source : List Float
    source = part (loaded_at y i j) (loaded_sizes y i j) v

    block_made : scaled_block y row t i j v
        ≡ store (working_at y i j) (made (eqb j y.k) (eqb i y.k) (eqb i j) (shape y row i j) (loaded_shape y row i j) i j source) v
    unfolding scaled_block
    block_made = ap (λ (l : List Float). store (working_at y i j) l v) (is_made (λ r c. false) i j source)

  -- a factor in its form
  pub factor_scaled : (j : ℕ) → j < y.k → (v : List Float) {p : Placed} → placed y row j j ≡ p
      → scaled_block y row t j j v ≡ factor.scaled p (factor.loaded_of (working y j j) (loaded_at y j j)) (sorted_theta y t j) v
  factor_scaled j h v e =
      block_made j j v
      ∙ rw (ne_eqb j y.k (λ q. omega arith), eq-eqb j j refl, ← (size_loaded y row j j)) refl
      ∙ ap₂ (λ (p d : Placed). factor.scaled p d (sorted_theta y t j) v) e (is_loaded_factor y row j h)

  -- a pair
  pub pair_scaled : (i j : ℕ) → j < i → i < y.k → (v : List Float)
      → scaled_block y row t i j v ≡ scaled_twice (shape y row i j) (working_at y i j) (loaded_at y i j) (sorted_theta y t j) (sorted_theta y t i) v
  pair_scaled i j h g v =
      block_made i j v
      ∙ rw (ne_eqb j y.k (λ q. omega arith), ne_eqb i y.k (λ q. omega arith), ne_eqb i j (λ q. omega arith), ← (size_loaded y row i j), loaded_pair y row i j h) refl

  -- fixed rows
  pub fixed_scaled : (j : ℕ) → j < y.k → (v : List Float)
      → scaled_block y row t y.k j v ≡ scaled_once (shape y row y.k j) (working_at y y.k j) (loaded_at y y.k j) (sorted_theta y t j) v
  fixed_scaled j h v =
      block_made y.k j v
      ∙ rw (ne_eqb j y.k (λ q. omega arith), eq-eqb y.k y.k refl, ← (size_loaded y row y.k j), loaded_pair y row y.k j h) refl

  -- the last triangle
  pub last_scaled : (v : List Float)
      → scaled_block y row t y.k y.k v ≡ store (working_at y y.k y.k) (part (loaded_at y y.k y.k) (loaded_sizes y y.k y.k) v) v
  last_scaled v = block_made y.k y.k v ∙ rw (eq-eqb y.k y.k refl) refl

  -- a block has as many doubles as its shape has cells
  pub length_scaled : (loaded : ℕ → ℕ → Bool) (i j : ℕ) → j ≤ i → i ≤ y.k → (a : List Float) → length a ≡ loaded_sizes y i j
      → length (scaled y row loaded t i j a) ≡ sizes y i j
  length_scaled loaded i j h g a e = ap length (is_made loaded i j a) ∙ go (eqb j y.k) refl
    where
      go : (b : Bool) → eqb j y.k ≡ b → length (made b (eqb i y.k) (eqb i j) (shape y row i j) (loaded_shape y row i j) i j a) ≡ sizes y i j
      go true q =
          let k : j ≡ y.k = eqb-true j y.k q in
          let l : i ≡ y.k = omega arith in
          e ∙ rw (k, l) (loaded_last y)
      go false q = length_fill (shape y row i j) _ ∙ size_working y row i j

-- Where the pivots of a valid layout lie.
use Prim.Native.Nat.{ℕ, ◌+◌, ◌≤◌, ◌<◌}
use mathlib.Core.Path.{◌≡◌, refl, sym, ap, ◌∙◌}
use mathlib.Core.Bool.{Bool, true, false}
use mathlib.Core.List.{List}
use native.Mathlib.Omega.{arith}
use lib.Dec.{eqb}
use lib.ListN.{length, get_or}
use lib.Ieee.{Float, nan}
use borrow.Author.Tests.{eq-eqb}
use Rattle.storage.specs.Runs.{start, triangle}
use Rattle.storage.specs.Shape.{Shape, has_cell, size_of, place_of}
use Rattle.storage.proofs.Starts.{start_le}
use Rattle.storage.proofs.Places.{place_below, place_diagonal}
use Rattle.block_runs.proofs.blocks.Laws.{read_block, has_packed, has_diagonal}
use Rattle.layout.specs.declared.Layout.{Layout}
use Rattle.layout.specs.declared.FactorKind.{FactorKind}
use Rattle.layout.specs.declared.FactorKind.TheVariants.{Diagonal, Packed}
use Rattle.layout.specs.Shapes.{factor_kind, shape_of_kind, shape, sizes, working_at, doubles_needed}
use Rattle.heading_format.specs.Heading.{valid_layout}
use Rattle.layout.proofs.Places.{working_inside}
use Rattle.block_places.proofs.block_sizes.Sizes.{doubles_small}
use Rattle.block_places.specs.block_kinds.Rows.{rows_of}
use Rattle.block_places.proofs.block_kinds.Shapes.{own_shape}
use Rattle.views.specs.pivot_places.Pivots.{pivot_shape, pivot_in, pivot_at}

-- a diagonal block has this shape, whatever the rows of the sparse entries
pub shape_is : (y : Layout) (row : ℕ → ℕ) (j : ℕ) → shape y row j j ≡ pivot_shape y j
unfolding shape
shape_is y row j = go (eqb j y.k) refl
  where
    go : (b : Bool) → eqb j y.k ≡ b → shape y row j j ≡ pivot_shape y j
    go true e = rw (e) refl
    go false e = rw (e, eq-eqb j j refl) refl

-- a factor has its pivots
has_kind : (d : FactorKind) (n r : ℕ) → r < n → has_cell (shape_of_kind d n) r r ≡ true
has_kind Diagonal n r h = has_diagonal n r h
has_kind Packed n r h = has_packed n r r h (omega arith)

module _ (y : Layout) (ok : valid_layout y ≡ true) (j : ℕ) (there : j ≤ y.k) where
  -- it is stored by its kind
  kind : {d : FactorKind} → factor_kind y j ≡ d → pivot_shape y j ≡ shape_of_kind d (rows_of y j)
  kind e = sym (shape_is y (λ x. 0) j) ∙ own_shape y ok (λ x. 0) j there e

  module _ (r : ℕ) (here : r < rows_of y j) where
    pub has_pivot : has_cell (pivot_shape y j) r r ≡ true
    has_pivot = ap (λ (z : Shape). has_cell z r r) (kind refl) ∙ has_kind (factor_kind y j) (rows_of y j) r here

    -- where the code finds it
    pub in_diagonal : factor_kind y j ≡ Diagonal → r ≡ pivot_in y j r
    unfolding pivot_in
    in_diagonal e = sym (ap (λ (z : Shape). place_of z r r) (kind e) ∙ place_diagonal (rows_of y j) r)

    pub in_packed : (s : ℕ) → factor_kind y j ≡ Packed → s ≡ start triangle r → s + r ≡ pivot_in y j r
    unfolding pivot_in
    in_packed s e q = rw q (sym (ap (λ (z : Shape). place_of z r r) (kind e)))

-- ---- places far below 2 ^ 63
-- the start of a row of a triangle
pub start_small : (r s : ℕ) → r ≤ 316 → s ≡ start triangle r → s ≤ 50086
unfolding start
start_small r s h e = let l : start triangle 316 ≡ 50086 = refl in omega (arith, start_le triangle r 316 h)

module _ (y : Layout) (n : ℕ) (ok : valid_layout y ≡ true) (room : doubles_needed y ≤ n) (j r : ℕ) (there : j ≤ y.k) (here : r < rows_of y j) where
  -- the block lies within the doubles
  pub block_within : (m : ℕ) → doubles_needed y ≤ m → working_at y j j + size_of (pivot_shape y j) ≤ m
  block_within m h =
      let e : sizes y j j ≡ size_of (pivot_shape y j) = ap size_of (shape_is y (λ x. 0) j) in
      omega (arith, working_inside y j j (omega arith) there)

  pub pivot_place : (at s : ℕ) → at ≡ working_at y j j → s ≡ pivot_in y j r → (at + s < n) × (at + s < 2199023255552)
  unfolding pivot_in
  pivot_place at s e q =
      let p = place_below (pivot_shape y j) r r (has_pivot y ok j there r here) in
      (omega (arith, block_within n room), omega (arith, block_within (doubles_needed y) (omega arith), doubles_small y ok))

pub pivot_read : (y : Layout) (w : List Float) → doubles_needed y ≤ length w → (j r : ℕ) → j ≤ y.k → r < rows_of y j → valid_layout y ≡ true → (at s : ℕ) → at ≡ working_at y j j → s ≡ pivot_in y j r
    → get_or w (at + s) nan ≡ pivot_at y w j r
unfolding pivot_in pivot_at
pivot_read y w room j r there here ok at s e q =
    read_block (pivot_shape y j) (working_at y j j) w r r (at + s) (has_pivot y ok j there r here) (block_within y (length w) ok room j r there here (length w) room) (omega arith)

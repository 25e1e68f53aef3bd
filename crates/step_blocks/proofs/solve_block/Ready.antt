-- What the kernels of T ask of the blocks that they are given: limits, and that target and factor lie within the doubles and apart.
use Prim.Native.Nat.{ℕ, ◌≤◌, ◌<◌}
use mathlib.Core.Path.{◌≡◌, refl}
use mathlib.Core.Bool.{true, false}
use mathlib.Core.Logic.{◌⊎◌, inr}
use native.Mathlib.Omega.{arith}
use Rattle.storage.specs.Placed.{Placed, block_of, as_columns, as_triangle, as_diagonal, Lies, Apart}
use Rattle.layout.specs.declared.Layout.{Layout}
use Rattle.layout.specs.declared.FactorKind.TheVariants.{Diagonal, Packed}
use Rattle.layout.specs.Shapes.{factor_kind, working_at, doubles_needed}
use Rattle.heading_format.specs.Heading.{valid_layout}
use Rattle.layout.proofs.Factors.{packed_later, later_packed}
use Rattle.heading_format.proofs.Sorted.{packed_dense}
use Rattle.cross_block.specs.Blocks.{ByFactor}
use Rattle.block_places.specs.block_kinds.Rows.{rows_of}
use Rattle.block_places.specs.Working.{working, placed}
use Rattle.block_places.proofs.block_kinds.Shapes.{packed_limit}
use Rattle.block_places.proofs.Placing.{is_columns, is_factor, is_entries, lies, apart}

module _ (y : Layout) (ok : valid_layout y ≡ true) (row : ℕ → ℕ) where
  -- by a triangle, the target is dense
  pub is_solved : (i j : ℕ) → j < i → i ≤ y.k → factor_kind y j ≡ Packed → (placed y row i j ≡ as_columns (working y i j)) × (placed y row j j ≡ as_triangle (working y j j))
  is_solved i j h g d =
      (is_columns y row i j h g (inr (packed_dense y ok j (omega arith) d)), is_factor y row ok j (omega arith) d)

  module _ (doubles : ℕ) (room : doubles_needed y ≤ doubles) where
    -- block (i, j) and its factor
    both_lie : {i j : ℕ} → j < i → i ≤ y.k → {t f : Placed} → placed y row i j ≡ t → placed y row j j ≡ f → Lies doubles t × Lies doubles f × Apart t f
    both_lie h g e q =
        (lies y row room (omega arith) g e, lies y row room (omega arith) (omega arith) q, apart y row room (omega arith) g e (omega arith) (omega arith) q (λ a b. omega arith))

    -- by a diagonal: a dense block, and the entries of a sparse pair
    pub divide_ready : (i j : ℕ) → j < i → i ≤ y.k → factor_kind y j ≡ Diagonal → (i ≡ y.k) ⊎ (y.sparse ≡ false) → ByFactor doubles as_diagonal (working y i j) (working y j j)
    divide_ready i j h g d why =
        let r = both_lie h g (is_columns y row i j h g why) (is_factor y row ok j (omega arith) d) in
        record { cols = refl; target = r.0; factor = r.1; apart = r.2 }

    pub entries_ready : y.sparse ≡ true → y.k ≡ 2 → ByFactor doubles as_diagonal (block_of (working_at y 1 0) 1 (rows_of y 0)) (working y 0 0)
    entries_ready p two =
        let r = both_lie (omega arith) (omega arith) (is_entries y row two p) (is_factor y row ok 0 (omega arith) refl) in
        record { cols = refl; target = r.0; factor = r.1; apart = r.2 }

    -- by a triangle
    pub solve_ready : (i j : ℕ) → j < i → i ≤ y.k → factor_kind y j ≡ Packed → (rows_of y i ≤ 316) × ByFactor doubles as_triangle (working y i j) (working y j j)
    solve_ready i j h g d =
        let e = is_solved i j h g d in
        let l = packed_later y j d in
        let r = both_lie h g e.0 e.1 in (
          packed_limit y ok i g (later_packed y i (omega arith)),
          record { cols = refl; target = r.0; factor = r.1; apart = r.2 },
        )

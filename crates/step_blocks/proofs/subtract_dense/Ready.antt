-- What the kernels of S ask of the blocks that they are given: limits, and that target and sources lie within the doubles and apart.
use Prim.Native.Nat.{ℕ, ◌≤◌, ◌<◌}
use mathlib.Core.Path.{◌≡◌, refl, sym}
use mathlib.Core.Bool.{true, false}
use mathlib.Core.Logic.{inl, inr}
use native.Mathlib.Omega.{arith}
use Rattle.layout.specs.declared.Layout.{Layout}
use Rattle.layout.specs.declared.FactorKind.TheVariants.{Diagonal, Packed}
use Rattle.layout.specs.Shapes.{factor_kind, loaded_at, doubles_needed}
use Rattle.layout.proofs.Factors.{later_packed}
use Rattle.heading_format.specs.Heading.{valid_layout}
use Rattle.heading_format.proofs.Sorted.{packed_dense}
use Rattle.block_places.specs.block_kinds.Rows.{rows_of}
use Rattle.block_places.proofs.block_kinds.Shapes.{sparse_two, last_packed, packed_limit, second_limit}
use Rattle.storage.specs.Placed.{Product, Squares, as_columns, as_triangle, as_entries}
use Rattle.block_places.specs.Working.{working}
use Rattle.block_places.proofs.Placing.{is_columns, is_factor, is_entries, is_loaded, is_product, is_squares}

module _ (y : Layout) (ok : valid_layout y ≡ true) (doubles : ℕ) (room : doubles_needed y ≤ doubles) (row : ℕ → ℕ) where
  -- the last triangle, with fixed rows
  pub last_ready : (x : ℕ) → x < y.k → (rows_of y y.k ≤ 316) × Product doubles as_triangle as_columns (working y y.k y.k) (working y y.k x) (working y y.k x)
  last_ready x l =
      let a = is_columns y row y.k x l (omega arith) (inl refl) in
      (packed_limit y ok y.k (omega arith) (last_packed y ok y.k refl), is_product y row room as_triangle as_columns l (omega arith) (omega arith) (is_factor y row ok y.k (omega arith) (last_packed y ok y.k refl)) a a)

  -- a triangle, with a dense pair
  pub triangle_ready : (j x : ℕ) → x < j → j < y.k → factor_kind y j ≡ Packed → (rows_of y j ≤ 316) × Product doubles as_triangle as_columns (working y j j) (working y j x) (working y j x)
  triangle_ready j x l h d =
      let a = is_columns y row j x l (omega arith) (inr (packed_dense y ok j h d)) in
      (packed_limit y ok j (omega arith) d, is_product y row room as_triangle as_columns l (omega arith) (omega arith) (is_factor y row ok j (omega arith) d) a a)

  -- a dense target, with two dense sources
  pub dense_ready : (i j x : ℕ) → x < j → j < i → i ≤ y.k → y.sparse ≡ false → (rows_of y i ≤ 316) × Product doubles as_columns as_columns (working y i j) (working y i x) (working y j x)
  dense_ready i j x l h g d = (
    packed_limit y ok i g (later_packed y i (omega arith)),
    is_product y row room as_columns as_columns l (omega arith) g (is_columns y row i j h g (inr d)) (is_columns y row i x (omega arith) g (inr d)) (is_columns y row j x l (omega arith) (inr d)),
  )

  -- a diagonal, with a dense pair
  pub diagonal_ready : 1 < y.k → factor_kind y 1 ≡ Diagonal → y.sparse ≡ false → (rows_of y 1 ≤ 316) × Squares doubles as_columns (working y 1 1) (working y 1 0) (loaded_at y 1 0)
  diagonal_ready h d p =
      let a = is_columns y row 1 0 (omega arith) (omega arith) (inr p) in
      (second_limit y ok h p, is_squares y row room as_columns (omega arith) (is_factor y row ok 1 (omega arith) d) a (is_loaded y row _ a))

  -- ---- a sparse pair
  module _ (p : y.sparse ≡ true) (two : y.k ≡ 2) where
    -- a diagonal
    pub entries_ready : Squares doubles (as_entries row) (working y 1 1) (working y 1 0) (loaded_at y 1 0)
    entries_ready =
        let a = is_entries y row two p in
        is_squares y row room (as_entries row) (omega arith) (is_factor y row ok 1 (omega arith) (sparse_two y ok p).0) a (is_loaded y row _ a)

    -- fixed rows
    pub sparse_ready : (rows_of y 2 ≤ 316) × Product doubles as_columns (as_entries row) (working y 2 1) (working y 2 0) (working y 1 0)
    sparse_ready = (
      packed_limit y ok 2 (omega arith) refl,
      is_product y row room as_columns (as_entries row) (omega arith) (omega arith) (omega arith) (is_columns y row 2 1 (omega arith) (omega arith) (inl (sym two)))
          (is_columns y row 2 0 (omega arith) (omega arith) (inl (sym two))) (is_entries y row two p),
    )

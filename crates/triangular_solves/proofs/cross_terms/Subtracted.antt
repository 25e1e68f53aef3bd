-- A block of the vector less a cross block times another: what the kernels ask at the places of a layout, and that they make what is defined.
use Prim.Native.Nat.{ℕ, ◌+◌, ◌≤◌, ◌<◌}
use mathlib.Core.Path.{◌≡◌, refl, sym, ap, ap₂, fun_ext, ◌∙◌}
use mathlib.Core.Bool.{true, false}
use mathlib.Core.List.{List}
use mathlib.Core.Logic.{inl, inr, ⊎_elim}
use native.Mathlib.Omega.{arith}
use lib.ListN.{length, drop, length-drop}
use lib.Seq.{get_or-drop}
use lib.Ieee.{Float}
use Rattle.storage.specs.Shape.{columns, size_of}
use Rattle.storage.specs.Placed.{Lies, as_columns, as_entries}
use Rattle.storage.proofs.Starts.{start_single}
use Rattle.block_runs.specs.blocks.Blocks.{entry}
use Rattle.layout.specs.declared.Layout.{Layout}
use Rattle.layout.specs.Shapes.{levels, shape, working_at}
use Rattle.heading_format.specs.Heading.{valid_layout, entry_row}
use Rattle.heading_format.specs.Fits.{Fits}
use Rattle.heading_format.proofs.Sorted.{dense_rows}
use Rattle.workspace.specs.Loaded.{row_start}
use Rattle.profile.specs.Solves.{sparse_value}
use Rattle.block_places.specs.Working.{working}
use Rattle.block_places.specs.block_kinds.Rows.{rows_of}
use Rattle.block_places.proofs.Placing.{is_columns, is_entries, lies}
use Rattle.block_places.proofs.sheet_rows.Rows.{rows_apart}
use Rattle.block_places.proofs.sheet_rows.AllRows.{rows_within}
use Rattle.block_places.proofs.block_kinds.Shapes.{rows_level, dense_shape, sparse_shape}
use Rattle.block_places.proofs.block_kinds.Workspace.{fits_two, fits_numbers, fits_rows}
use Rattle.cross_matvec.specs.Products.{Sides, HasRows, row_in, subtracted_product, subtracted_product_t, subtracted_sparse_product, subtracted_sparse_product_t}
use Rattle.solution_vectors.specs.Vectors.{subtracted_forward, subtracted_backward}
use Rattle.heading_format.specs.Parts.{heading_length}

-- cross block (i, j) of a workspace, and the blocks i and j of the vector at `from`
module _ (h : List ℕ) (w : List Float) (y : Layout) (fit : Fits y h (length w)) (i j : ℕ) (l : j < i) (g : i < y.k) (from : ℕ) where
  ok : valid_layout y ≡ true
  ok = fit.valid

  rows_are : rows_of y i ≡ levels y i
  rows_are = rows_level y i g

  cols_are : rows_of y j ≡ levels y j
  cols_are = rows_level y j (omega arith)

  -- both blocks are in the vector, and apart
  both_sides : (long : ℕ) → from + y.q ≤ long → Sides long (from + row_start y i) (from + row_start y j) (working y i j)
  both_sides long room =
      let r = rows_are in
      let c = cols_are in
      record {
        rows = omega (arith, rows_within y ok i g);
        cols = omega (arith, rows_within y ok j (omega arith));
        apart = ⊎_elim (λ b. inl (omega arith)) (λ b. inr (omega arith)) (rows_apart y ok i j g (omega arith) (λ q. omega arith));
      }

  -- ---- a dense cross block: what the kernels ask, and what they make
  module _ (p : y.sparse ≡ false) where
    dense_is : shape y (entry_row h) i j ≡ columns (levels y i) (levels y j)
    dense_is = dense_shape y (entry_row h) i j l (omega arith) (inr p) ∙ ap₂ columns rows_are cols_are

    pub dense_ready : (long : ℕ) → from + y.q ≤ long
        → (rows_of y i ≤ 316) × Sides long (from + row_start y i) (from + row_start y j) (working y i j) × Lies (length w) (as_columns (working y i j))
    dense_ready long room = (
      omega (arith, rows_are, dense_rows y ok i (omega arith) g p),
      both_sides long room,
      lies y (entry_row h) fit.room (omega arith) (omega arith) (is_columns y (entry_row h) i j l (omega arith) (inr p)),
    )

    module _ (v : List Float) {v' : List Float} where
      pub forward_made_lem : v' ≡ subtracted_product (from + row_start y i) (from + row_start y j) (working y i j) w v → v' ≡ subtracted_forward h w y from i j v
      forward_made_lem q = q ∙ rw (rows_are, cols_are, sym fit.same, dense_is, p) refl

      pub backward_made_lem : v' ≡ subtracted_product_t (from + row_start y j) (from + row_start y i) (working y i j) w v → v' ≡ subtracted_backward h w y from i j v
      backward_made_lem q = q ∙ rw (rows_are, cols_are, sym fit.same, dense_is, p) refl

  -- ---- a sparse one, which is block (1, 0), and the rows of its entries
  module _ (p : y.sparse ≡ true) where
    first : (i ≡ 1) × (j ≡ 0)
    first = let two = fits_two h w y fit p in (omega arith, omega arith)

    abbrev row : ℕ → ℕ
    row = row_in (drop heading_length h)

    pub sparse_ready : (long : ℕ) → from + y.q ≤ long → Sides long (from + row_start y i) (from + row_start y j) (working y i j)
        × Lies (length w) (as_entries row (working y i j)) × HasRows (drop heading_length h) (working y i j)
    sparse_ready long room = (
      both_sides long room,
      rw (first.0, first.1) (lies y row fit.room (omega arith) (omega arith) (is_entries y row (fits_two h w y fit p) p)),
      rw (first.0, first.1) (simp length-drop (omega (arith, fits_numbers h w y fit p)), λ c m. rw (get_or-drop heading_length h c 0) (fits_rows h w y fit p c m)),
    )

    same_rows : row ≡ entry_row h
    same_rows = fun_ext (λ c. get_or-drop heading_length h c 0)

    values_are : sparse_value h w ≡ entry (working_at y i j) (rows_of y j) w
    values_are =
        ap (λ (z : Layout). entry (working_at z 1 0) (size_of (shape z (entry_row h) 1 0)) w) (sym fit.same)
        ∙ rw (first.0, first.1) (ap (λ (n : ℕ). entry (working_at y 1 0) n w) (ap size_of (sparse_shape y (entry_row h) 1 0 (omega arith) (omega arith) p) ∙ start_single (rows_of y 0)))

    module _ (v : List Float) {v' : List Float} where
      pub sparse_forward_made : v' ≡ subtracted_sparse_product row (from + row_start y i) (from + row_start y j) (working y i j) w v → v' ≡ subtracted_forward h w y from i j v
      sparse_forward_made q = q ∙ rw (same_rows, values_are, rows_are, cols_are, sym fit.same, p) refl

      pub sparse_backward_made : v' ≡ subtracted_sparse_product_t row (from + row_start y j) (from + row_start y i) (working y i j) w v → v' ≡ subtracted_backward h w y from i j v
      sparse_backward_made q = q ∙ rw (same_rows, values_are, rows_are, cols_are, sym fit.same, p) refl

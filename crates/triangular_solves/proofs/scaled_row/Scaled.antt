-- Where theta and the loaded fixed rows of a block lie, and what v of a row is by them; each callee's answer is a number of its own.
use Prim.Native.Nat.{ℕ, ◌+◌, ◌≤◌, ◌<◌}
use mathlib.Core.Path.{◌≡◌, refl, sym, ap, ap₂, ◌∙◌}
use mathlib.Core.List.{List, []}
use mathlib.Core.Logic.{inl}
use native.Mathlib.Omega.{arith}
use lib.ListN.{length, get_or}
use lib.Ieee.{Float, nan}
use Rattle.storage.specs.Runs.{start, dense, tab}
use Rattle.storage.specs.Shape.{Shape, columns, size_of}
use Rattle.storage.specs.Part.{part, store}
use Rattle.storage.specs.declared.Block.{Block}
use Rattle.storage.specs.Placed.{block_of, as_columns, Lies, read}
use Rattle.storage.proofs.Cells.{any_default, length_tab, get_or_tab}
use Rattle.storage.proofs.Starts.{start_below}
use Rattle.rules.specs.Arithmetic.{ieee}
use Rattle.rules.specs.Begin.{fixed_cell}
use Rattle.block_runs.specs.axpy.Axpy.{run}
use Rattle.block_runs.proofs.blocks.Laws.{read_block, has_dense}
use Rattle.layout.specs.declared.Layout.{Layout}
use Rattle.layout.specs.Shapes.{levels, loaded_shape, loaded_at, theta_at, sheet_index}
use Rattle.layout.proofs.Places.{theta_inside}
use Rattle.heading_format.specs.Heading.{layout_of, entry_row}
use Rattle.heading_format.specs.Fits.{Fits}
use Rattle.workspace.specs.Memory.{cell_of, loaded_block, theta_of}
use Rattle.workspace.specs.Loaded.{row_start}
use Rattle.heading_format.proofs.Sorted.{order_below}
use Rattle.block_places.proofs.sheet_rows.AllRows.{rows_within}
use Rattle.block_places.specs.block_kinds.Rows.{rows_of}
use Rattle.block_places.proofs.block_kinds.Shapes.{rows_level, dense_shape, loaded_pair, loaded_room}
use Rattle.profile.specs.Solves.{scaled_row, block_in}
use Rattle.solution_vectors.specs.Vectors.{with_block_at, Sized}
use Rattle.solution_vectors.proofs.Vectors.{sized_tab}
use lib.Seq.{get_or-drop}

-- ---- column c of block a

module _ (a : Block) (c column : ℕ) (h : c < a.cols) (e : column ≡ a.at + start (dense a.rows) c) where
  pub column_room : {n : ℕ} → Lies n (as_columns a) → column + a.rows ≤ n
  column_room fits = omega (arith, start_below (dense a.rows) c a.cols h)

  -- its cell of row r
  pub column_cell : (w : List Float) → Lies (length w) (as_columns a) → (r : ℕ) → r < a.rows → get_or w (column + r) nan ≡ read (as_columns a) w r c
  column_cell w fits r l = read_block (columns a.rows a.cols) a.at w r c (column + r) (has_dense a.rows a.cols r c l h) fits (omega arith)

-- ---- the workspace

module _ (h : List ℕ) (w : List Float) (y : Layout) (fit : Fits y h (length w)) where
  module _ (j : ℕ) (l : j < y.k) where
    -- theta of sorted block j
    module _ (x s : ℕ) (p : x ≡ theta_at y) (q : s ≡ sheet_index y j) where
      pub theta_room : x + s < length w
      theta_room = omega (arith, fit.room, theta_inside y, order_below y fit.valid j l)

      pub theta_read : get_or w (x + s) nan ≡ theta_of h w j
      theta_read =
          any_default w (x + s) nan ieee.zero theta_room
          ∙ ap₂ (λ (a b : ℕ). get_or w (a + b) ieee.zero) (p ∙ ap theta_at fit.same) (q ∙ ap (λ (z : Layout). sheet_index z j) fit.same)
          ∙ sym (get_or-drop (theta_at (layout_of h)) w (sheet_index (layout_of h) j) ieee.zero)

    -- the rows of sorted block j in a list of q rows
    pub rows_room : (from len : ℕ) → from + y.q ≤ len → from + row_start y j + rows_of y j ≤ len
    rows_room from len fits = omega (arith, rows_within y fit.valid j l, rows_level y j l)

    -- its fixed rows are dense
    fixed_shape_lem : (row : ℕ → ℕ) → loaded_shape y row y.k j ≡ columns (rows_of y y.k) (rows_of y j)
    fixed_shape_lem row = loaded_pair y row y.k j l ∙ dense_shape y row y.k j l (omega arith) (inl refl)

    abbrev fixed : Block
    fixed = block_of (loaded_at y y.k j) (rows_of y y.k) (rows_of y j)

    pub fixed_lies : Lies (length w) (as_columns fixed)
    fixed_lies = loaded_room y (λ x. 0) (length w) fit.room y.k j (omega arith) (omega arith) _ refl y.k j (omega arith) (omega arith) _ (fixed_shape_lem (λ x. 0))

    -- v of row r in that block
    row_block : (r : ℕ) → block_in (scaled_row h w r) j ≡ tab (rows_of y j) (λ c. fixed_cell ieee (theta_of h w j) (read (as_columns fixed) w r c))
    unfolding scaled_row
    row_block r =
        let made : Layout → Shape → ℕ → List Float =
        λ z s n. tab n (λ c. fixed_cell ieee (theta_of h w j) (cell_of s (part (loaded_at z z.k j) (size_of s) w) r c)) in
        get_or_tab (layout_of h).k (λ i. tab (levels (layout_of h) i) (λ c. fixed_cell ieee (theta_of h w i) (cell_of (loaded_shape (layout_of h) (entry_row h) (layout_of h).k i) (loaded_block h w (layout_of h).k i) r c)))
        j [] (rw fit.same at l)
        ∙ sym (ap (λ (z : Layout). made z (loaded_shape z (entry_row h) z.k j) (levels z j)) fit.same)
        ∙ ap₂ (made y) (fixed_shape_lem (entry_row h)) (sym (rows_level y j l))

    pub block_scaled : (r from : ℕ) (v : List Float) {u : List Float} → u ≡ run (from + row_start y j) (rows_of y j) (λ c. fixed_cell ieee (theta_of h w j) (read (as_columns fixed) w r c)) v
        → u ≡ with_block_at y from j (block_in (scaled_row h w r) j) v
    block_scaled r from v g = g ∙ ap (λ (x : List Float). store (from + row_start y j) x v) (sym (row_block r))

  -- v of row r has the layout's blocks
  pub row_sized : (r : ℕ) → Sized y (scaled_row h w r)
  unfolding scaled_row
  row_sized r = rw fit.same (sized_tab (layout_of h) (rw fit.same at fit.valid) _ (λ j l. length_tab (levels (layout_of h) j) _))

-- Where the cells of a response lie: all inside the loaded doubles.
use Prim.Native.Nat.{ℕ, suc, ◌+◌, ◌*◌, ◌≤◌, ◌<◌}
use mathlib.Core.Path.{◌≡◌, refl, ap, ◌∙◌}
use mathlib.Core.Bool.{true}
use mathlib.Core.List.{List}
use native.Mathlib.Nat.{mul-le-mul_right}
use native.Mathlib.Numerals.{add-one}
use native.Mathlib.Omega.{arith}
use lib.ListN.{length}
use lib.Ieee.{Float}
use Rattle.storage.specs.Runs.{start, triangle}
use Rattle.storage.proofs.Starts.{start_triangle}
use Rattle.layout.specs.declared.Layout.{Layout}
use Rattle.layout.specs.Shapes.{levels, loaded_at, loaded_length, loaded_sizes, last_rows}
use Rattle.heading_format.specs.Heading.{valid_layout}
use Rattle.heading_format.proofs.Valid.{is_valid}
use Rattle.layout.proofs.Places.{loaded_inside}
use Rattle.layout.proofs.Formula.{fixed_size, last_size, loaded_other, loaded_last}
use Rattle.workspace.specs.Loaded.{row_start}
use Rattle.replace_response.specs.write_rows.Strided.{strided, from, fixed_row, fixed_rows, last_at, last_row}
use Rattle.block_places.proofs.sheet_rows.AllRows.{rows_within}
use Rattle.replace_response.proofs.write_rows.Strided.{length_strided}

module _ (y : Layout) where
  pub fixed_cells_lem : (j : ℕ) → j < y.k → loaded_sizes y y.k j ≡ last_rows y * levels y j
  fixed_cells_lem j h = loaded_other y y.k j h ∙ fixed_size y j h

  pub last_cells : loaded_sizes y y.k y.k ≡ start triangle y.p + last_rows y
  last_cells = loaded_last y ∙ last_size y ∙ omega (arith, start_triangle y.p)

  -- row p of the fixed rows of factor j
  pub fixed_within : (j c : ℕ) → j < y.k → c < levels y j → loaded_at y y.k j + y.p + c * last_rows y < loaded_length y
  fixed_within j c h l =
      let m : suc c ≤ levels y j = l in
      omega (arith, mul-le-mul_right (last_rows y) m, loaded_inside y y.k j (omega arith) (omega arith), fixed_cells_lem j h)

  -- row p of the last triangle
  pub last_within : (c : ℕ) → c ≤ y.p → loaded_at y y.k y.k + start triangle y.p + c < loaded_length y
  last_within c l = omega (arith, loaded_inside y y.k y.k (omega arith) (omega arith), last_cells)

  pub few_blocks : valid_layout y ≡ true → y.k ≤ 8
  few_blocks ok = (is_valid y ok).blocks.1

  pub few_effects : valid_layout y ≡ true → y.p ≤ 316
  few_effects ok = omega (arith, (is_valid y ok).effects.1)

  -- the first cell of factor j's fixed rows
  pub first_within : valid_layout y ≡ true → (j : ℕ) → j < y.k → loaded_at y y.k j + y.p < loaded_length y
  first_within ok j h = let l : 0 < levels y j = ((is_valid y ok).level j h).0 in omega (arith, fixed_within j 0 h l)

-- ---- the calls, each callee's answer being a number of its own

module _ (y : Layout) (ok : valid_layout y ≡ true) (at len : ℕ) (room : loaded_length y ≤ len) where
  module _ (j n first rows : ℕ) (h : j < y.k) (a : at ≡ loaded_at y y.k j) (b : n ≡ levels y j) (f : first ≡ row_start y j) {step : ℕ} (s : step ≡ last_rows y) where
    pub block_fits : rows ≡ y.q → (first + n ≤ rows) × ((c : ℕ) → c < n → at + y.p + c * step < len)
    block_fits q = (omega (arith, rows_within y ok j h), λ c l. rw s (omega (arith, fixed_within y j c h (omega arith))))

    pub block_written : (zy w v : List Float) → v ≡ strided (at + y.p) step n (from zy first) w → v ≡ fixed_row y zy j w
    unfolding fixed_row
    block_written zy w v e = e ∙ rw (a, b, f, s) refl

  module _ (row : ℕ) (a : at ≡ loaded_at y y.k y.k) (r : row ≡ start triangle y.p) where
    pub last_fits : (c : ℕ) → c ≤ y.p → at + row + c < len
    last_fits c l = omega (arith, last_within y c l)

    pub last_written : (xy yy w v u : List Float) → v ≡ strided (at + row) 1 y.p (from xy 0) w → u ≡ strided (at + row + y.p) 1 1 (from yy 0) v
        → u ≡ last_row y xy yy w
    unfolding last_row last_at
    last_written xy yy w v u e f = f ∙ rw (e, r, a) refl

-- ---- the loop over the blocks

module _ (y : Layout) (zy w : List Float) where
  pub rows_none : w ≡ fixed_rows y zy 0 w
  unfolding fixed_rows
  rows_none = refl

  pub length_row : (j : ℕ) (v : List Float) → length (fixed_row y zy j v) ≡ length v
  unfolding fixed_row
  length_row j v = length_strided (loaded_at y y.k j + y.p) (last_rows y) (from zy (row_start y j)) v (levels y j)

  pub rows_more : (j : ℕ) (v u : List Float) → v ≡ fixed_rows y zy j w → u ≡ fixed_row y zy j v → u ≡ fixed_rows y zy (j + 1) w
  unfolding fixed_rows
  rows_more j v u e f = rw add-one (f ∙ ap (fixed_row y zy j) e)

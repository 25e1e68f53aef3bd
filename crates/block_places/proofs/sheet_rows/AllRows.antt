-- The rows of a valid layout's blocks in the sheet: all of them are the layout's q rows.
use Prim.Native.Nat.{ℕ, ◌+◌, ◌≤◌, ◌<◌}
use mathlib.Core.Path.{◌≡◌, sym, ap, ◌∙◌}
use mathlib.Core.Bool.{true}
use mathlib.Core.List.{List}
use native.Mathlib.Omega.{arith}
use lib.ListN.{length, get_or, take}
use lib.Seq.{get_or-take}
use Rattle.layout.specs.declared.Layout.{Layout}
use Rattle.layout.specs.Blocks.{sorted, sum}
use Rattle.layout.specs.Shapes.{levels}
use Rattle.layout.proofs.Sums.{sum_same, sum_over, over_sorted}
use Rattle.heading_format.specs.Heading.{sheet_levels, valid_layout}
use Rattle.heading_format.proofs.Valid.{is_valid}
use Rattle.heading_format.proofs.Sorted.{length_sorted, same_lists, levels_at_lem}
use Rattle.workspace.specs.Loaded.{row_start}
use Rattle.block_places.proofs.sheet_rows.Rows.{rows_end}

module _ (y : Layout) (ok : valid_layout y ≡ true) where
  abbrev sheet_m : ℕ → ℕ
  sheet_m = sheet_levels y y.k

  -- the levels of the sheet's blocks are those of the sorted ones
  pub all_rows : sum sheet_m y.k ≡ y.q
  all_rows =
      let l : List ℕ = sorted sheet_m y.k in
      let n : length l ≡ y.k = length_sorted sheet_m y.k in
      let at : (j : ℕ) → j < y.k → sheet_m (get_or l j 0) ≡ levels y j =
      λ j h. ap sheet_m (ap (λ (z : List ℕ). get_or z j 0) (sym (same_lists (take y.k y.order) l (is_valid y ok).order)) ∙ get_or-take y.k y.order j 0 h) ∙ levels_at_lem y ok j h in
      sym (over_sorted sheet_m sheet_m y.k) ∙ sym (sum_over sheet_m l) ∙ ap (sum (λ i. sheet_m (get_or l i 0))) n
      ∙ sum_same (λ i. sheet_m (get_or l i 0)) (levels y) y.k at ∙ sym (is_valid y ok).total

  -- a block's rows are among the q rows
  pub rows_within : (j : ℕ) → j < y.k → row_start y j + levels y j ≤ y.q
  rows_within j h = omega (arith, rows_end y ok j h, all_rows)

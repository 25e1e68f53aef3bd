-- The test of counts and layout passes exactly on those of a sheet that 5 to 11 do not refuse.
use Prim.Native.Nat.{ℕ, zero, suc, ◌≤◌}
use mathlib.Core.Path.{◌≡◌, refl, sym, ap, ap₂, ◌∙◌}
use mathlib.Core.Logic.{◌↔◌}
use mathlib.Core.Bool.{true}
use native.Mathlib.Omega.{arith}
use lib.ListN.{length, take}
use Rattle.storage.proofs.Cells.{take_tab}
use Rattle.sheet.specs.Sheet.{Sheet}
use Rattle.layout.specs.declared.Layout.{Layout}
use Rattle.layout.specs.Blocks.{sum, sorted}
use Rattle.layout.specs.Shapes.{levels, sheet_index}
use Rattle.layout.proofs.Sums.{sum_same}
use Rattle.heading_format.specs.Heading.{same, sheet_levels, valid_layout}
use Rattle.heading_format.proofs.Valid.{Valid, is_valid}
use Rattle.heading_format.proofs.Sorted.{sorted_ext}
use Rattle.workspace.specs.Loaded.{layout_of_sheet}
use Rattle.workspace.proofs.Valid.{valid_of, shaped_valid}
use Rattle.workspace.proofs.ValidHeading.{length_order}
use Rattle.sheet_text.specs.Acceptable.{Passes}
use Rattle.sheet_text.proofs.Accepts.{allowed_alone}
use Rattle.valid_heading.specs.Layouts.{SameLayout, LayoutOf}
use Rattle.valid_heading.proofs.SheetFor.{sheet_for, layout_made}

-- ---- a layout that says the same as a valid one is valid, where both orders have k numbers

module _ (y z : Layout) (s : SameLayout y z) where
  same_sheet_levels : (n i : ℕ) → n ≤ y.k → sheet_levels y n i ≡ sheet_levels z n i
  unfolding sheet_levels
  same_sheet_levels zero i h = refl
  same_sheet_levels (suc n) i h = rw (s.order n (omega arith), s.levels n (omega arith), same_sheet_levels n i (omega arith))

  same_sorted : sorted (sheet_levels y y.k) y.k ≡ sorted (sheet_levels z z.k) z.k
  same_sorted =
      sorted_ext (sheet_levels y y.k) (sheet_levels z y.k) y.k (λ i h. same_sheet_levels y.k i (omega arith)) ∙ ap (λ (n : ℕ). sorted (sheet_levels z n) n) s.k

  same_take : y.k ≤ length y.order → y.k ≤ length z.order → take y.k y.order ≡ take z.k z.order
  same_take h g =
      take_tab 0 y.k (sheet_index y) y.order h (λ i l. refl) ∙ sym (take_tab 0 y.k (sheet_index y) z.order g (λ i l. sym (s.order i l)))
      ∙ ap (λ (n : ℕ). take n z.order) s.k

  same_total : sum (levels y) y.k ≡ sum (levels z) z.k
  same_total = sum_same (levels y) (levels z) y.k s.levels ∙ ap (sum (levels z)) s.k

  same_valid : y.k ≤ length y.order → y.k ≤ length z.order → valid_layout z ≡ true → valid_layout y ≡ true
  same_valid h g ok =
      let v : Valid z = is_valid z ok in
      valid_of y (rw s.n v.readings) (rw s.p v.effects) (rw s.k v.blocks)
      (λ j l. rw (s.levels j l) (v.level j (omega (arith, s.k))))
      (ap₂ same (same_take h g) same_sorted ∙ v.order)
      (s.q ∙ v.total ∙ sym same_total)
      (λ d. s.k ∙ v.diagonal (sym s.diagonal ∙ d))
      (λ d. let t = v.sparse (sym s.sparse ∙ d) in (s.diagonal ∙ t.0, s.k ∙ t.1))
      (λ i j l r. rw (s.sparse, s.diagonal, s.levels i l, s.levels j (omega arith), s.k) (v.pair i j (omega (arith, s.k)) r))

-- ---- the layout of a sheet that 5 to 11 do not refuse

pub passes_valid : (sheet : Sheet) → Passes sheet → valid_layout (layout_of_sheet sheet) ≡ true
passes_valid sheet p =
    shaped_valid sheet p.form.counts.n p.form.counts.p (p.some, p.form.counts.k) p.form.blocks p.form.blocks_length p.covers
    (λ i j h g. allowed_alone sheet (layout_of_sheet sheet) i j (λ n e. p.gate i j n h g e))

-- THE CLAIM, both ways
pub layout_exactly : (y : Layout) → length y.order ≡ 8 → (valid_layout y ≡ true) ↔ ((sheet : Sheet) × LayoutOf y sheet)
layout_exactly y long = (
  λ ok. (sheet_for y, layout_made y ok),
  λ l.
      let z : Layout = layout_of_sheet l.0 in
      let ok = passes_valid l.0 l.1.passes in
      let few = (is_valid z ok).blocks in
      let k = l.1.same.k in
      same_valid y z l.1.same (omega (arith, few.1)) (omega (arith, few.1, length_order l.0)) ok,
)

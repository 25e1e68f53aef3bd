-- The numbers of a sheet's heading are below 2 ^ 32, and its counts are as small as the gate asks.
use Prim.Native.Nat.{ℕ, zero, suc, ◌≤◌, ◌<◌}
use mathlib.Core.Path.{◌≡◌, sym, subst}
use mathlib.Core.List.{List, [], ◌∷◌}
use native.Mathlib.Omega.{arith}
use lib.ListN.{length, get_or}
use Rattle.sheet.specs.declared.Starts.{Starts}
use Rattle.sheet.specs.Sheet.{Sheet, accepted, read_sheet}
use Rattle.sheet.proofs.Whole.{read_whole}
use Rattle.layout.specs.declared.Layout.{Layout}
use Rattle.heading_format.specs.declared.Progress.{Progress}
use Rattle.layout.specs.Blocks.{sorted}
use Rattle.layout.specs.Shapes.{levels}
use Rattle.heading_format.specs.Heading.{idle}
use Rattle.heading_format.proofs.Sorted.{all_at, below_sorted}
use Rattle.layout.proofs.Sums.{padded_at}
use Rattle.heading.specs.writer.Small.{SmallLayout, SmallProgress}
use Rattle.heading.proofs.writer.Idle.{idle_small}
use Rattle.workspace.specs.Loaded.{sheet_m, sorted_layout, layout_of_sheet}
use Rattle.workspace.proofs.ValidHeading.{length_m, length_order}
use Rattle.layout_gate.proofs.Reading.{layout_small}
use Rattle.load_numbers.specs.sheet_words.Ready.{Ready}

-- what is small within a list is small past its end
small_at : (bound : ℕ) (l : List ℕ) → 0 < bound → ((i : ℕ) → i < length l → get_or l i 0 < bound) → (i : ℕ) → get_or l i 0 < bound
small_at bound [] b h i = b
small_at bound (x ∷ l) b h zero = h 0 (omega arith)
small_at bound (x ∷ l) b h (suc i) = small_at bound l b (λ i g. h (suc i) (omega arith)) i

module _ (s : List ℕ) (sheet : Sheet) (z : Starts) (read : read_sheet s ≡ accepted sheet z) where
  -- a sheet index is below k
  order_small : (i : ℕ) → i < 8 → get_or (layout_of_sheet sheet).order i 0 < 4294967296
  unfolding layout_of_sheet sorted_layout
  order_small i h =
      let k = sheet.counts.k in
      let few = (read_whole s sheet z read).shape.counts.k in
      let l = sorted (sheet_m sheet) k in
      omega (
        arith,
        padded_at 8 l i h,
        small_at 4294967296 l (omega arith)
            (λ i g. let b = all_at (λ x. x < k) l (below_sorted (sheet_m sheet) k) i g in omega (arith, b, few)) i,
      )

  sheet_small : SmallLayout (layout_of_sheet sheet)
  unfolding layout_of_sheet sorted_layout
  sheet_small =
      let counts = (read_whole s sheet z read).shape.counts in
      record {
        n = omega (arith, counts.n.1);
        p = omega (arith, counts.p.1);
        q = omega (arith, counts.q);
        k = omega (arith, counts.k);
        m = small_at 4294967296 (layout_of_sheet sheet).m (omega arith) (λ i g. omega (arith, layout_small s sheet z read i (omega (arith, g, length_m sheet))));
        order = small_at 4294967296 (layout_of_sheet sheet).order (omega arith) (λ i g. order_small i (omega (arith, g, length_order sheet)));
      }

  -- what the gate's search asks
  gate_sheet : ((layout_of_sheet sheet).k ≤ 8) × ((i : ℕ) → i < 8 → levels (layout_of_sheet sheet) i ≤ 65535)
  unfolding layout_of_sheet sorted_layout
  gate_sheet = ((read_whole s sheet z read).shape.counts.k, layout_small s sheet z read)

  pub gate_small : (y : Layout) → y ≡ layout_of_sheet sheet → (y.k ≤ 8) × ((i : ℕ) → i < 8 → levels y i ≤ 65535)
  gate_small y e = subst (λ (x : Layout). (x.k ≤ 8) × ((i : ℕ) → i < 8 → levels x i ≤ 65535)) (sym e) gate_sheet

pub ready_small : (s : List ℕ) (z : Starts) (y : Layout) → Ready s z y → SmallLayout y
ready_small s z y r = subst SmallLayout (sym r.3) (sheet_small s r.0 z r.1)

-- progress none
pub progress_small : (k : ℕ) (g : Progress) → k ≤ 8 → g ≡ idle k → SmallProgress g
progress_small k g h e = subst SmallProgress (sym e) (idle_small k h)

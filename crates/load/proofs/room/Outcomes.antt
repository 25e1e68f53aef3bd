-- What load leaves, part by part, is what is defined.
use Prim.Native.Nat.{ℕ, ◌+◌, ◌≤◌}
use mathlib.Core.Path.{◌≡◌, refl, ap, ap₂, ◌∙◌}
use mathlib.Core.Bool.{true, false, and-eq-true_iff}
use mathlib.Core.List.{List, []}
use Rattle.std.specs.Prelude.{None}
use native.Mathlib.Omega.{arith}
use borrow.Author.Tests.{leb-true}
use lib.Dec.{leb}
use lib.ListN.{length}
use lib.Ieee.{Float}
use Rattle.storage.specs.Runs.{tab}
use Rattle.storage.specs.Part.{store}
use Rattle.storage.proofs.Parts.{store_more}
use Rattle.sheet.specs.Sheet.{Sheet}
use Rattle.layout.specs.declared.Layout.{Layout}
use Rattle.heading_format.specs.declared.Progress.{Progress}
use Rattle.layout.specs.Shapes.{pick, levels, doubles_needed}
use Rattle.heading_format.specs.Heading.{valid_layout, written, idle, numbers_needed}
use Rattle.heading_format.proofs.Valid.{is_valid}
use Rattle.heading_format.proofs.Heading.{length_written}
use Rattle.workspace.specs.Answers.{Outcome, workspace, untouched}
use Rattle.workspace.specs.Loaded.{entry_row_in}
use Rattle.workspace.specs.Load.{heading_of, doubles_of, has_room, after_gate}
use Rattle.heading_format.specs.Parts.{heading_length}
use Rattle.std.specs.Prelude.{Result, Ok}
use Rattle.refusal.specs.declared.Refusal.{Refusal}

-- ---- lengths
-- the first block's levels are few
pub first_levels : (y : Layout) → valid_layout y ≡ true → levels y 0 ≤ 65535
first_levels y ok = let l = is_valid y ok in (l.level 0 (omega (arith, l.blocks.0))).1

-- with a sparse pair one number for each column, else none
pub numbers_sparse : (y : Layout) → y.sparse ≡ true → heading_length + levels y 0 ≡ numbers_needed y
numbers_sparse y e = rw e refl

pub numbers_dense : (y : Layout) → y.sparse ≡ false → heading_length ≡ numbers_needed y
numbers_dense y e = rw e refl

-- what the two tests say
module _ (y : Layout) (h : List ℕ) (w : List Float) (room : has_room y h w ≡ true) where
  pub numbers_fit : numbers_needed y ≤ length h
  numbers_fit = leb-true _ _ ((and-eq-true_iff (leb (numbers_needed y) (length h)) (leb (doubles_needed y) (length w))).0 room).0

  pub doubles_fit : doubles_needed y ≤ length w
  doubles_fit = leb-true _ _ ((and-eq-true_iff (leb (numbers_needed y) (length h)) (leb (doubles_needed y) (length w))).0 room).1

-- ---- the heading: its parts, and the rows right behind them
pub heading_made : (sheet : Sheet) (y : Layout) (g : Progress) (h h₁ h₂ : List ℕ) → g ≡ idle y.k → h₁ ≡ store 0 (written y g) h
    → h₂ ≡ store heading_length (pick y.sparse (tab (levels y 0) (entry_row_in sheet y)) []) h₁ → numbers_needed y ≤ length h → h₂ ≡ store 0 (heading_of sheet y) h
unfolding heading_of
heading_made sheet y g h h₁ h₂ e₀ e₁ e₂ fits =
    let rows : List ℕ = pick y.sparse (tab (levels y 0) (entry_row_in sheet y)) [] in
    let front : List ℕ = written y (idle y.k) in
    let long : length front ≡ heading_length = length_written y (idle y.k) in
    let behind : heading_length ≡ 0 + length front = omega (arith, long) in
    e₂
    ∙ ap (λ (x : List ℕ). store heading_length rows x) (e₁ ∙ ap (λ (x : Progress). store 0 (written y x) h) e₀)
    ∙ ap (λ (n : ℕ). store n rows (store 0 front h)) behind
    ∙ store_more 0 front h (omega (arith, long, fits)) rows

-- ---- past the gate: 12, or all is written
-- an answer, and what the lists are then
abbrev pub left : Result Unit Refusal → List ℕ → List Float → Outcome
left a h w = record { answer = a; left = workspace h w }

module _ (sheet : Sheet) (y : Layout) (h : List ℕ) (w : List Float) where
  pub short_out : has_room y h w ≡ false → untouched h w 12 0 0 ≡ after_gate None sheet y h w
  short_out e = rw e refl

  pub written_out : (h₁ : List ℕ) (w₁ : List Float) → has_room y h w ≡ true → h₁ ≡ store 0 (heading_of sheet y) h → w₁ ≡ store 0 (doubles_of sheet y) w
      → left (Ok tt) h₁ w₁ ≡ after_gate None sheet y h w
  written_out h₁ w₁ e a b = rw e (ap₂ (left (Ok tt)) a b)

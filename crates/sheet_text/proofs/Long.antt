-- Number 1 comes of bytes that are too long, and of no others: every other refusal of reading names a line.
use Prim.Native.Nat.{ℕ, zero, suc, ◌<◌}
use mathlib.Core.Path.{◌≡◌, refl, ◌∙◌}
use mathlib.Core.Bool.{Bool, true, false, cond}
use mathlib.Core.List.{List}
use native.Mathlib.Omega.{arith}
use borrow.Author.Tests.{ltb-true}
use lib.Dec.{ltb, eqb}
use lib.ListN.{length}
use Rattle.sheet.specs.declared.Starts.{Starts}
use Rattle.sheet.specs.Line.{size_line}
use Rattle.sheet.specs.Sheet.{Sheet, Outcome, accepted, refused, size_verdict, after_size, read_sheet, sheet_of, alone}
use Rattle.sheet.proofs.Numbers.{lines_refusal}

-- a sheet, and anything behind it
read_long : (s : List ℕ) → read_sheet s ≡ refused 1 0 → 16777216 < length s
unfolding read_sheet
read_long s e = go (ltb 16777216 (length s)) refl (size_verdict (size_line s 0)) e
  where
    go : (t : Bool) → ltb 16777216 (length s) ≡ t → (v : ℕ) → cond t (refused 1 0) (after_size v s (size_line s 0)) ≡ refused 1 0 → 16777216 < length s
    go true u v g = ltb-true _ _ u
    go false u zero g = let b = (lines_refusal s (size_line s 0).counts (size_line s 0).next 1 0 g).0 in absurd (omega arith)
    go false u (suc v) g = let z : ◌≡◌ {A = ℕ} 1 0 = cc in absurd (omega arith)

-- the sheet that load is given
pub one_long : (s : List ℕ) → sheet_of s ≡ refused 1 0 → 16777216 < length s
unfolding sheet_of
one_long s e = go (read_sheet s) refl e
  where
    left_over : (sheet : Sheet) (starts : Starts) (t : Bool) → cond t (accepted sheet starts) (refused 2 starts.line) ≡ refused 1 0 → 16777216 < length s
    left_over sheet starts true g = let z : ◌≡◌ {A = ℕ} 0 1 = cc in absurd (omega arith)
    left_over sheet starts false g = let z : ◌≡◌ {A = ℕ} 2 1 = cc in absurd (omega arith)

    go : (o : Outcome) → read_sheet s ≡ o → alone s o ≡ refused 1 0 → 16777216 < length s
    go (accepted sheet starts) u g = left_over sheet starts (eqb starts.end (length s)) g
    go (refused number line) u g = read_long s (u ∙ g)

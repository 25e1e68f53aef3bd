-- What is answered to an outcome, 1 to 9 or where the lines start, and what one may conclude from it.
use Prim.Native.Nat.{ℕ}
use mathlib.Core.Path.{◌≡◌, refl, ap, ap₂, ◌∙◌}
use mathlib.Core.Bool.{Bool, true, false, cond}
use native.Mathlib.Omega.{arith}
use borrow.Author.Tests.{eqb-true, eq-eqb}
use lib.Dec.{eqb}
use Rattle.std.specs.Prelude.{Ok}
use Rattle.sheet.specs.declared.SheetRefusal.{SheetRefusal}
use Rattle.sheet.specs.declared.Starts.{Starts}
use Rattle.sheet.specs.Sheet.{Sheet, Outcome, accepted, refused}
use Rattle.sheet.specs.Fault.{fault_number, named_line}
use Rattle.sheet.specs.Answer.{checked, judged, refused_with}

-- a sheet that goes on is without a fault
pub judged_read : (o : Outcome) (z : Starts) → judged o ≡ Ok z → (sheet : Sheet) × (o ≡ accepted sheet z) × (fault_number sheet ≡ 0)
judged_read (refused number line) z e = absurd (let x : ◌≡◌ {A = ℕ} 0 1 = cc in omega arith)
judged_read (accepted sheet starts) z e = go (eqb (fault_number sheet) 0) refl e
  where
    go : (t : Bool) → eqb (fault_number sheet) 0 ≡ t → cond t (Ok starts) (refused_with (fault_number sheet) (named_line sheet)) ≡ Ok z
        → (found : Sheet) × (accepted sheet starts ≡ accepted found z) × (fault_number found ≡ 0)
    go true u q = (sheet, (let s : starts ≡ z = cc in ap (accepted sheet) s), eqb-true (fault_number sheet) 0 u)
    go false u q = absurd (let x : ◌≡◌ {A = ℕ} 0 1 = cc in omega arith)

-- equal refusals are equal in number and line
pub same_refusal : (n l number line : ℕ) → refused_with n l ≡ refused_with number line → (n ≡ number) × (l ≡ line)
same_refusal n l number line e =
    let r : ◌≡◌ {A = SheetRefusal} (record { number = n; line = l }) (record { number = number; line = line }) = cc in
    (ap (λ (x : SheetRefusal). x.number) r, ap (λ (x : SheetRefusal). x.line) r)

-- what comes of a refusal
pub judged_refused : {A : Type 0} (f : ℕ → ℕ → A) (g : Sheet → Starts → A) (o : Outcome) (number line : ℕ) → judged o ≡ refused_with number line → checked f g o ≡ f number line
judged_refused f g (refused n l) number line e = let s = same_refusal n l number line e in ap₂ f s.0 s.1
judged_refused {A} f g (accepted sheet starts) number line e = go (eqb (fault_number sheet) 0) e
  where
    go : (t : Bool) → cond t (Ok starts) (refused_with (fault_number sheet) (named_line sheet)) ≡ refused_with number line → cond t (g sheet starts) (f (fault_number sheet) (named_line sheet)) ≡ f number line
    go true q = absurd (let x : ◌≡◌ {A = ℕ} 0 1 = cc in omega arith)
    go false q = let s = same_refusal (fault_number sheet) (named_line sheet) number line q in ap₂ f s.0 s.1

-- and of a sheet without a fault
pub checked_fine : {A : Type 0} (f : ℕ → ℕ → A) (g : Sheet → Starts → A) (o : Outcome) (sheet : Sheet) (starts : Starts) → o ≡ accepted sheet starts → fault_number sheet ≡ 0
    → checked f g o ≡ g sheet starts
checked_fine f g o sheet starts e fine = ap (checked f g) e ∙ rw (eq-eqb (fault_number sheet) 0 fine) refl

-- What an answer means says which answer it is; a refusal is that of its number and places.
use Prim.Native.Nat.{ℕ}
use mathlib.Core.Path.{◌≡◌, refl, sym, ap, ◌∙◌}
use mathlib.Core.Bool.{cond}
use native.Mathlib.Omega.{arith}
use Rattle.std.specs.Prelude.{Result, Ok, Err}
use Rattle.refusal.specs.declared.Numbers.{Numbers}
use Rattle.refusal.specs.Numbers.{numbers_of, refusal, Meaning, meaning}
use Rattle.refusal.specs.declared.Refusal.{Refusal}
use Rattle.refusal.specs.declared.Refusal.TheVariants.{SheetTooLong, OutOfForm, WordNotFinite, OutOfRange, NotInterceptOnly, EmptyRe, Slopes, DimMismatch, FaultyEntry, MultiblockFill, CrossGate, WorkspaceTooShort, WrongLength, NotFinite, NoWorkspace, NoSuchStep, NoUpdate, StepDone, ForerunnerMissing, FactorUnfinished, PivotRefused, FixedPivotRefused}

abbrev pub by_numbers : Numbers → Refusal
by_numbers n = refusal n.number n.first n.second

pub refusal_back : (r : Refusal) → by_numbers (numbers_of r) ≡ r
refusal_back SheetTooLong = refl
refusal_back (OutOfForm line) = refl
refusal_back (WordNotFinite line) = refl
refusal_back (OutOfRange line) = refl
refusal_back NotInterceptOnly = refl
refusal_back EmptyRe = refl
refusal_back Slopes = refl
refusal_back DimMismatch = refl
refusal_back (FaultyEntry line) = refl
refusal_back (MultiblockFill j jj) = refl
refusal_back (CrossGate j jj) = refl
refusal_back WorkspaceTooShort = refl
refusal_back (WrongLength list) = refl
refusal_back (NotFinite list index) = refl
refusal_back NoWorkspace = refl
refusal_back NoSuchStep = refl
refusal_back NoUpdate = refl
refusal_back StepDone = refl
refusal_back ForerunnerMissing = refl
refusal_back FactorUnfinished = refl
refusal_back (PivotRefused block row) = refl
refusal_back (FixedPivotRefused row) = refl

-- the answer that means this
abbrev answer_of : Meaning → Result Unit Refusal
answer_of m = cond m.accepted (Ok tt) (Err (by_numbers m.refusal))

answer_back : (a : Result Unit Refusal) → answer_of (meaning a) ≡ a
answer_back (Ok tt) = refl
answer_back (Err r) = ap Err (refusal_back r)

pub meaning_injective : (a b : Result Unit Refusal) → meaning a ≡ meaning b → a ≡ b
meaning_injective a b e = sym (answer_back a) ∙ ap answer_of e ∙ answer_back b

-- no value is a refusal
pub differ : {A : Type 0} {a : A} {r : Refusal} → ◌≡◌ {A = Result A Refusal} (Ok a) (Err r) → ⊥
differ e = let z : ◌≡◌ {A = ℕ} 0 1 = cc in omega arith

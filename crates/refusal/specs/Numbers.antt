-- Document 01's number and places of a refusal, and of an answer.
use Rattle.std.specs.Prelude.{ℕ, Bool, true, false, cond, eqb, Result, Ok, Err}
use Rattle.refusal.specs.declared.Numbers.{Numbers}
use Rattle.refusal.specs.declared.Refusal.{Refusal}
use Rattle.refusal.specs.declared.Refusal.TheVariants.{SheetTooLong, OutOfForm, WordNotFinite, OutOfRange, NotInterceptOnly, EmptyRe, Slopes, DimMismatch, FaultyEntry, MultiblockFill, CrossGate, WorkspaceTooShort, WrongLength, NotFinite, NoWorkspace, NoSuchStep, NoUpdate, StepDone, ForerunnerMissing, FactorUnfinished, PivotRefused, FixedPivotRefused}

abbrev pub numbers : ℕ → ℕ → ℕ → Numbers
numbers n a b = record { number = n; first = a; second = b }

-- document 01's two tables
abbrev pub numbers_of : Refusal → Numbers
numbers_of SheetTooLong = numbers 1 0 0
numbers_of (OutOfForm line) = numbers 2 line 0
numbers_of (WordNotFinite line) = numbers 3 line 0
numbers_of (OutOfRange line) = numbers 4 line 0
numbers_of NotInterceptOnly = numbers 5 0 0
numbers_of EmptyRe = numbers 6 0 0
numbers_of Slopes = numbers 7 0 0
numbers_of DimMismatch = numbers 8 0 0
numbers_of (FaultyEntry line) = numbers 9 line 0
numbers_of (MultiblockFill j jj) = numbers 10 j jj
numbers_of (CrossGate j jj) = numbers 11 j jj
numbers_of WorkspaceTooShort = numbers 12 0 0
numbers_of (WrongLength list) = numbers 13 list 0
numbers_of (NotFinite list index) = numbers 14 list index
numbers_of NoWorkspace = numbers 20 0 0
numbers_of NoSuchStep = numbers 21 0 0
numbers_of NoUpdate = numbers 22 0 0
numbers_of StepDone = numbers 23 0 0
numbers_of ForerunnerMissing = numbers 24 0 0
numbers_of FactorUnfinished = numbers 25 0 0
numbers_of (PivotRefused block row) = numbers 26 block row
numbers_of (FixedPivotRefused row) = numbers 27 row 0

-- The refusal of a number that stands in a table, with its places. Where a number stands in none it is the first one, which names no place.
abbrev pub refusal : ℕ → ℕ → ℕ → Refusal
refusal n a b =
    cond (eqb n 1) SheetTooLong
    (cond (eqb n 2) (OutOfForm a)
    (cond (eqb n 3) (WordNotFinite a)
    (cond (eqb n 4) (OutOfRange a)
    (cond (eqb n 5) NotInterceptOnly
    (cond (eqb n 6) EmptyRe
    (cond (eqb n 7) Slopes
    (cond (eqb n 8) DimMismatch
    (cond (eqb n 9) (FaultyEntry a)
    (cond (eqb n 10) (MultiblockFill a b)
    (cond (eqb n 11) (CrossGate a b)
    (cond (eqb n 12) WorkspaceTooShort
    (cond (eqb n 13) (WrongLength a)
    (cond (eqb n 14) (NotFinite a b)
    (cond (eqb n 20) NoWorkspace
    (cond (eqb n 21) NoSuchStep
    (cond (eqb n 22) NoUpdate
    (cond (eqb n 23) StepDone
    (cond (eqb n 24) ForerunnerMissing
    (cond (eqb n 25) FactorUnfinished
    (cond (eqb n 26) (PivotRefused a b)
    (cond (eqb n 27) (FixedPivotRefused a) SheetTooLong)))))))))))))))))))))

abbrev pub refuse : ℕ → ℕ → ℕ → Result Unit Refusal
refuse n a b = Err (refusal n a b)

-- what is not refused has number 0
abbrev pub no_refusal : Numbers
no_refusal = numbers 0 0 0

-- WHAT AN ANSWER MEANS (document 01: "Each answer has a number and two places (0 if none)"): whether the call is accepted, and number and places.
pub record Meaning : Type 0 where
  pub accepted : Bool
  pub refusal : Numbers

abbrev pub meaning : Result Unit Refusal → Meaning
meaning (Ok tt) = record { accepted = true; refusal = no_refusal }
meaning (Err r) = record { accepted = false; refusal = numbers_of r }

abbrev pub refusal_of : Result Unit Refusal → Numbers
refusal_of a = (meaning a).refusal

-- What a reader of sheets answers (document 01, "Refused because of the input", 1 to 9).
use Rattle.std.specs.Prelude.{ℕ, cond, eqb, Result, Ok, Err}
use Rattle.sheet.specs.declared.SheetRefusal.{SheetRefusal}
use Rattle.sheet.specs.declared.Starts.{Starts}
use Rattle.sheet.specs.Sheet.{Sheet, Outcome, accepted, refused}
use Rattle.sheet.specs.Fault.{fault_number, named_line}

-- a refusal by its number and line
abbrev pub refused_with : ℕ → ℕ → Result Starts SheetRefusal
refused_with number line = Err (record { number = number; line = line })

-- an outcome without the sheet's words, before 5 to 9 are looked for
abbrev pub reading_of : Outcome → Result Starts SheetRefusal
reading_of (accepted sheet starts) = Ok starts
reading_of (refused number line) = refused_with number line

-- What comes of an outcome: the first of 1 to 9 that refuses it, by number and line (1 to 4 as it says, then 5 to 9), or the sheet and where its lines
-- start.
abbrev pub checked : {A : Type 0} → (ℕ → ℕ → A) → (Sheet → Starts → A) → Outcome → A
checked refuse go (refused number line) = refuse number line
checked refuse go (accepted sheet starts) = cond (eqb (fault_number sheet) 0) (go sheet starts) (refuse (fault_number sheet) (named_line sheet))

-- what is answered
abbrev pub judged : Outcome → Result Starts SheetRefusal
judged o = checked refused_with (λ sheet starts. Ok starts) o

-- Number 9 of a sheet (document 01, "Refused because of the input"; document 02, item 1): what a pass answers.
use Rattle.std.specs.Prelude.{ℕ, ◌<◌, cond, eqb, List, length, Option, Some, None}
use Rattle.sheet.specs.declared.Starts.{Starts}
use Rattle.sheet.specs.Fault.{Fault}
use Rattle.sheet_checks.specs.mirror_cursor.Held.{held, entry_of, place_of, FaultAt}
use Rattle.sheet_checks.specs.mirror_cursor.Turns.{InGroup}

-- the line at `at` is faulty, or it is the end, and before it no entry of the group has a fault
pub record Judged (s : List ℕ) (z : Starts) (base width at : ℕ) : Type 0 where
  pub known : FaultAt s z at
  pub sound : (t : ℕ) → t < length (held s).zz → place_of s z t < at → InGroup base width (entry_of (held s) t) → Fault (held s) (entry_of (held s) t) → ⊥

-- a line's number, where 0 is none
abbrev pub line_of : ℕ → Option ℕ
line_of line = cond (eqb line 0) None (Some line)

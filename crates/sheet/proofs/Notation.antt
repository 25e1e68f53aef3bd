-- A short notation for the examples: what the definitions make of a sheet given as lines of text (specs/Text.antt).
use Prim.Native.Nat.{ℕ, ◌-◌}
use Prim.Native.String.{String}
use mathlib.Core.Bool.{Bool, cond}
use mathlib.Core.List.{List, [], ◌∷◌, ◌++◌}
use lib.ListN.{take, drop}
use Rattle.std.specs.Prelude.{Result}
use Rattle.sheet.specs.declared.SheetRefusal.{SheetRefusal}
use Rattle.sheet.specs.declared.Starts.{Starts}
use Rattle.sheet.specs.Run.{Entry}
use Rattle.sheet.specs.Sheet.{Outcome, accepted, refused, read_sheet, sheet_of}
use Rattle.sheet.specs.Fault.{is_fault, fault_number}
use Rattle.sheet.specs.Answer.{judged}
use Rattle.sheet.specs.Text.{reading}

-- the lines without line n, counted from 1
abbrev pub without : ℕ → List String → List String
without n lines = take (n - 1) lines ++ drop n lines

-- what is read, and what load is told of the lines
unfoldable pub read : List ℕ → Outcome
unfolding reading
read s = read_sheet s

unfoldable pub load : List ℕ → Result Starts SheetRefusal
unfolding read sheet_of
load s = judged (sheet_of s)

-- the number of its refusal, 1 to 9, or 0
abbrev pub number_of : Outcome → ℕ
number_of (accepted sheet starts) = fault_number sheet
number_of (refused number line) = number

unfoldable pub refusal : List ℕ → ℕ
unfolding load
refusal s = number_of (sheet_of s)

-- the numbers of its faulty lines
unfoldable pub lines_with : (Entry → Bool) → List Entry → List ℕ
lines_with test [] = []
lines_with test (e ∷ rest) = cond (test e) (e.line ∷ []) [] ++ lines_with test rest

abbrev pub faults_of : Outcome → List ℕ
faults_of (accepted sheet starts) = lines_with (is_fault sheet) sheet.zz
faults_of (refused number line) = []

unfoldable pub faulty : List ℕ → List ℕ
unfolding load lines_with
faulty s = faults_of (sheet_of s)

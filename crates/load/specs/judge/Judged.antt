-- What comes of judging a sheet, whatever workspace is lent (document 01, "Refused because of the input"): the first of 1 to 11 that refuses it, or where
-- its lines start and how its workspace is laid out.
use Rattle.std.specs.Prelude.{ℕ, List, Option, None, Some, Result, Ok, Err}
use Rattle.refusal.specs.declared.Refusal.{Refusal}
use Rattle.refusal.specs.Numbers.{refusal}
use Rattle.sheet.specs.declared.Starts.{Starts}
use Rattle.sheet.specs.Sheet.{Sheet, sheet_of}
use Rattle.sheet.specs.Fault.{fault_number, faulty_line}
use Rattle.sheet.specs.Answer.{checked}
use Rattle.layout.specs.declared.Layout.{Layout}
use Rattle.layout.specs.Shapes.{pairs}
use Rattle.workspace.specs.Loaded.{first_refused_pair, layout_of_sheet}
use Rattle.load.specs.declared.judge.Passed.{Passed}

-- where its lines start, and its layout
abbrev pub passed : Starts → Layout → Passed
passed starts y = record { starts = starts; layout = y }

-- the gate's refusal, or the layout passes
abbrev pub after_pairs : {A : Type 0} → Option Refusal → A → Result A Refusal
after_pairs (Some r) a = Err r
after_pairs None a = Ok a

-- a sheet without a fault: 10 and 11
unfoldable pub layout_judged : Sheet → Result Layout Refusal
unfolding first_refused_pair layout_of_sheet pairs
layout_judged sheet = let y = layout_of_sheet sheet in after_pairs (first_refused_pair sheet y (pairs y.k)) y

unfoldable pub judged_sheet : Sheet → Starts → Result Passed Refusal
unfolding first_refused_pair layout_of_sheet pairs
judged_sheet sheet starts = let y = layout_of_sheet sheet in after_pairs (first_refused_pair sheet y (pairs y.k)) (passed starts y)

-- any bytes: 1 to 9, which name a line at most, or the sheet goes on
unfoldable pub judged_of : List ℕ → Result Passed Refusal
unfolding sheet_of fault_number faulty_line judged_sheet
judged_of s = checked (λ number line. Err (refusal number line 0)) judged_sheet (sheet_of s)

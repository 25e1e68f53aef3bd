-- Load as a function of bytes, heading and doubles to answer, heading and doubles (document 01, Record 3, "Refused because of the input").
use Rattle.std.specs.Prelude.{ℕ, Bool, ◌&&◌, List, [], ◌++◌, leb, length, Float}
use Rattle.std.specs.Prelude.{Option, None, Some}
use Rattle.storage.specs.Runs.{tab}
use Rattle.storage.specs.Part.{store}
use Rattle.sheet.specs.Sheet.{Sheet, sheet_of}
use Rattle.sheet.specs.Fault.{fault_number, faulty_line}
use Rattle.sheet.specs.Answer.{checked}
use Rattle.layout.specs.declared.Layout.{Layout}
use Rattle.refusal.specs.declared.Refusal.{Refusal}
use Rattle.layout.specs.Shapes.{pick, block_rows, pairs, doubles_needed}
use Rattle.layout.specs.Blocks.{sum}
use Rattle.heading_format.specs.Heading.{written, idle, sheet_levels, numbers_needed}
use Rattle.workspace.specs.Memory.{zeros}
use Rattle.workspace.specs.Answers.{Outcome, accept, unchanged, untouched}
use Rattle.workspace.specs.Loaded.{row_of, first_refused_pair, layout_of_sheet, entry_row_in, loaded_numbers}

-- the heading of a sheet just loaded: progress none, and the rows of a sparse pair's entries
unfoldable pub heading_of : Sheet → Layout → List ℕ
unfolding written tab row_of sum sheet_levels
heading_of sheet y = written y (idle y.k) ++ pick y.sparse (tab (block_rows y 0) (entry_row_in sheet y)) []

-- the doubles: the loaded numbers, and every working double +0.0
unfoldable pub doubles_of : Sheet → Layout → List Float
unfolding loaded_numbers zeros
doubles_of sheet y = loaded_numbers sheet y ++ zeros y

-- both fit
abbrev pub has_room : Layout → List ℕ → List Float → Bool
has_room y h w = leb (numbers_needed y) (length h) && leb (doubles_needed y) (length w)

abbrev pub after_gate : Option Refusal → Sheet → Layout → List ℕ → List Float → Outcome
after_gate (Some r) sheet y h w = unchanged h w r
after_gate None sheet y h w = pick (has_room y h w) (accept (store 0 (heading_of sheet y) h) (store 0 (doubles_of sheet y) w)) (untouched h w 12 0 0)

-- a sheet without a fault: 10 and 11, then 12; nothing past the formula is written
unfoldable pub load_sheet : Sheet → List ℕ → List Float → Outcome
unfolding first_refused_pair layout_of_sheet pairs heading_of doubles_of
load_sheet sheet h w =
    let y = layout_of_sheet sheet in
    after_gate (first_refused_pair sheet y (pairs y.k)) sheet y h w

-- LOAD of the bytes s on h and w: 1 to 9, or the sheet goes on
unfoldable pub load_of : List ℕ → List ℕ → List Float → Outcome
unfolding sheet_of fault_number faulty_line load_sheet
load_of s h w = checked (λ number line. untouched h w number line 0) (λ sheet starts. load_sheet sheet h w) (sheet_of s)

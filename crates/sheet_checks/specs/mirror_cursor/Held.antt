-- The sheet that bytes hold, and its zz lines by index (document 01, Record 1).
use Rattle.std.specs.Prelude.{ℕ, ◌<◌, ◌≤◌, ◌≡◌, true, List, [], length, get_or}
use Rattle.sheet.specs.declared.Starts.{Starts}
use Rattle.sheet.specs.Line.{zz_tag, pair_line}
use Rattle.sheet.specs.Run.{Entry, past_from}
use Rattle.sheet.specs.Sheet.{Sheet, Outcome, accepted, refused, sheet_with, read_sheet}
use Rattle.sheet.specs.Fault.{Fault, covers_rows}
use Rattle.layout.specs.Blocks.{padded}
use Rattle.sheet_checks.specs.levels.Held.{level_list}

-- the sheet of an outcome; of a refusal nothing is ever asked
abbrev pub sheet_in : Outcome → Sheet
sheet_in (accepted sheet starts) = sheet
sheet_in (refused number line) = sheet_with (record { n = 0; p = 0; q = 0; k = 0; flag = 0 }) [] [] []

-- the sheet that bytes hold
unfoldable pub held : List ℕ → Sheet
held s = sheet_in (read_sheet s)

-- entry t of a sheet
unfoldable pub entry_of : Sheet → ℕ → Entry
entry_of sheet t = get_or sheet.zz t (record { line = 0; col = 0; row = 0; word = 0 })

-- where its line starts
abbrev pub place_of : List ℕ → Starts → ℕ → ℕ
place_of s z t = past_from (pair_line zz_tag s) t z.zz

-- What every part of the search for number 9 is given: bytes that hold a sheet, and the number of its zz lines.
pub record Given (s : List ℕ) (z : Starts) (n : ℕ) : Type 0 where
  pub read : read_sheet s ≡ accepted (held s) z
  pub count : n ≡ length (held s).zz
  pub fits : z.line < 18446744073709551616

-- and what is looked at with its blocks: their levels, which cover its rows
pub record Levelled (s m : List ℕ) : Type 0 where
  pub levels : m ≡ padded 8 (level_list (held s).blocks)
  pub covers : covers_rows (held s) ≡ true

-- a faulty line, by where it starts; the end of the zz lines stands for none
pub record FaultAt (s : List ℕ) (z : Starts) (at : ℕ) : Type 0 where
  pub t : ℕ
  pub near : t ≤ length (held s).zz
  pub here : at ≡ place_of s z t
  pub fault : t < length (held s).zz → Fault (held s) (entry_of (held s) t)

-- One turn of the search for number 9 (document 01, "Refused because of the input"): what is known before and after the line of an entry.
use Rattle.std.specs.Prelude.{ℕ, ◌+◌, ◌<◌, ◌≤◌, ◌≡◌, Bool, true, false, ◌&&◌, ◌||◌, List, ltb, leb, eqb, length, get_or}
use Rattle.sheet.specs.declared.Line.{Line}
use Rattle.sheet.specs.declared.Starts.{Starts}
use Rattle.sheet.specs.Run.{Entry}
use Rattle.sheet.specs.Sheet.{Sheet}
use Rattle.sheet.specs.Field.{is_zero}
use Rattle.sheet.specs.Fault.{is_inside}
use Rattle.sheet_checks.specs.declared.mirror_cursor.Moved.{Moved}
use Rattle.sheet_checks.specs.declared.mirror_cursor.Known.{Known}
use Rattle.sheet_checks.specs.mirror_cursor.Held.{held, entry_of, place_of, FaultAt}
use Rattle.sheet_checks.specs.mirror_cursor.Columns.{Column}

-- The smaller index of the entry at (a, b) is one of the `width` from `base` on. Two mirrors are in the same group of columns.
abbrev pub in_group : ℕ → ℕ → ℕ → ℕ → Bool
in_group base width a b = leb base a && (leb base b && (ltb a (base + width) || ltb b (base + width)))

-- an entry of the group
abbrev pub InGroup : ℕ → ℕ → Entry → Type 0
InGroup base width e = in_group base width e.col e.row ≡ true

-- v says whether the line l is in the group
pub record Grouped (base width : ℕ) (l : Line) (v : Bool) : Type 0 where
  pub same : v ≡ in_group base width l.first l.second

-- a fault that needs no other entry: the word is zero, or the entry off the diagonal inside a block
abbrev pub is_unfit : Sheet → Entry → Bool
is_unfit sheet e = is_zero e.word || is_inside sheet e

-- the line o is at the place of l's mirror; o is below the diagonal in the column of l's row, at a row that l's column is past
abbrev pub is_opposite : Line → Line → Bool
is_opposite l o = eqb o.first l.second && eqb o.second l.first

abbrev pub is_passed : Line → Line → Bool
is_passed l o = eqb o.first l.second && (ltb l.second o.second && ltb o.second l.first)

-- the cursor of column j after i entries, and the first faulty line that is known
pub record AtCursor (s : List ℕ) (z : Starts) (i due j : ℕ) (c : Moved) : Type 0 where
  pub column : Column (entry_of (held s)) (place_of s z) (length (held s).zz) i c.first due j c.cursor
  pub known : FaultAt s z c.first

-- what is known after i entries, in a pass for the columns of `cur` from `base` on
pub record Pass (s : List ℕ) (z : Starts) (base : ℕ) (cur : List ℕ) (i : ℕ) (k : Known) : Type 0 where
  pub near : i ≤ length (held s).zz
  pub here : k.at ≡ place_of s z i
  pub bound : k.due ≤ base + length cur
  pub known : FaultAt s z k.first
  pub columns : (j : ℕ) → j < length cur → Column (entry_of (held s)) (place_of s z) (length (held s).zz) i k.first k.due (base + j) (get_or cur j 0)
  pub fit : (t : ℕ) → t < i → place_of s z t < k.first → InGroup base (length cur) (entry_of (held s) t) → is_unfit (held s) (entry_of (held s) t) ≡ false

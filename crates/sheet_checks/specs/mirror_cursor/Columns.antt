-- Mirrors, found in one pass over the zz lines. Entries rise by column, then row, so that of two mirrors the one below the diagonal comes first, and
-- the entries of a row above the diagonal come in the order of the entries below the diagonal in the column of that number. One cursor
-- for each column stands at its first entry below the diagonal whose mirror may still come.
use Rattle.std.specs.Prelude.{ℕ, ◌<◌, ◌≤◌, ◌≡◌}
use Rattle.sheet.specs.Run.{Entry}
use Rattle.sheet.specs.Fault.{Mirror}

-- below the diagonal in column j, and above it in row j
abbrev pub Below : ℕ → Entry → Type 0
Below j e = (e.col ≡ j) × (j < e.row)

abbrev pub Above : ℕ → Entry → Type 0
Above j e = (e.row ≡ j) × (j < e.col)

-- one of the n entries is a mirror of entry t
abbrev pub Mirrored : (ℕ → Entry) → ℕ → ℕ → Type 0
Mirrored e n t = (u : ℕ) × (u < n) × Mirror (e t) (e u)

-- The cursor of column j after i of n entries, at entry x, which starts at y. Columns from `due` on have had no entry below the diagonal yet. Whether
-- entries from `first` on, where a faulty one starts, have a mirror is not said.
pub record Column (e : ℕ → Entry) (place : ℕ → ℕ) (n i first due j y : ℕ) : Type 0 where
  pub x : ℕ
  pub here : y ≡ place x
  pub near : x ≤ i
  pub within : x < n
  -- what is behind the cursor has its mirror, and so has what came above the diagonal
  pub met : (t : ℕ) → t < x → place t < first → Below j (e t) → Mirrored e n t
  pub behind : (u : ℕ) → u < i → place u < first → Above j (e u) → Mirrored e n u
  -- from the cursor on the mirrors are still to come; what is still to come has no mirror behind the cursor
  pub ahead : (t : ℕ) → x ≤ t → t < n → Below j (e t) → (u : ℕ) → u < i → Above j (e u) → (e u).col < (e t).row
  pub passed : (t : ℕ) → t < x → Below j (e t) → (u : ℕ) → i ≤ u → u < n → Above j (e u) → (e t).row < (e u).col
  -- the cursor is at an entry below the diagonal while there is one left
  pub started : j < due → (t : ℕ) → t < n → x ≤ t → Below j (e t) → Below j (e x)
  pub unstarted : due ≤ j → (t : ℕ) → t < i → Below j (e t) → ⊥

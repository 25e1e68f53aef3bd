-- Runs of lines (document 01, Record 1): reading goes from line to line, and stops at the first that is refused.
use Rattle.std.specs.Prelude.{ℕ, zero, suc, ◌+◌, Bool, ◌&&◌, ◌||◌, cond, List, [], ◌∷◌, ◌++◌, ltb, leb, eqb, Result, Ok, Err}
use Rattle.sheet.specs.declared.Line.{Line}
use Rattle.sheet.specs.declared.LineStart.{LineStart}
use Rattle.sheet.specs.declared.SheetRefusal.{SheetRefusal}
use Rattle.sheet.specs.Field.{is_finite}
use Rattle.sheet.specs.Line.{zz_tag, tag_to, in_form, block_line, pair_line, word_line, Test, verdict_of}

-- Where reading stands: the position and the number of the next line, and 0; or the line that was refused, and the refusal's number.
pub record Cursor : Type 0 where
  pub at : ℕ
  pub line : ℕ
  pub number : ℕ

-- the cursor at the start of a line; and what a reader answers at a cursor: where the next line starts, or the refusal
abbrev pub cursor_at : LineStart → Cursor
cursor_at p = record { at = p.at; line = p.line; number = 0 }

abbrev pub reached : Cursor → Result LineStart SheetRefusal
reached c = cond (eqb c.number 0) (Ok (record { at = c.at; line = c.line })) (Err (record { number = c.number; line = c.line }))

-- past a line with this verdict: at the next line, or still at this one where it is refused. A cursor at a refused line stays.
unfoldable pub pass_of : Cursor → ℕ → ℕ → Cursor
pass_of c number next =
    cond (eqb c.number 0)
    (cond (eqb number 0) (record { at = next; line = c.line + 1; number = 0 }) (record { at = c.at; line = c.line; number = number })) c

-- past a line from where reading stands, as a reader answers it: a refusal before the line is handed on
abbrev pub past_line : Result LineStart SheetRefusal → ℕ → ℕ → Result LineStart SheetRefusal
past_line (Ok p) number next = reached (pass_of (cursor_at p) number next)
past_line (Err r) number next = Err r

-- what is kept of a run of lines, line by line, and the cursor past it. Where a line is refused, only the cursor counts.
pub record Run (A : Type 0) : Type 0 where
  pub items : List A
  pub past : Cursor

abbrev pub ended : {A : Type 0} → Cursor → Run A
ended c = record { items = []; past = c }

abbrev pub before : {A : Type 0} → A → Run A → Run A
before a run = record { items = a ∷ run.items; past = run.past }

-- One line for each pair of indexes: `read` is the line at a position, `verdict` judges it against its indexes, `keep` is what is kept of it,
-- with its number.
unfoldable pub lines_of : {A : Type 0} → (ℕ → Line) → (ℕ × ℕ → Line → ℕ) → (ℕ → Line → A) → List (ℕ × ℕ) → Cursor → Run A
lines_of read verdict keep [] c = ended c
lines_of read verdict keep (i ∷ is) c =
    let l = read c.at in
    let more = lines_of read verdict keep is (pass_of c (verdict i l) l.next) in
    before (keep c.line l) more

-- the pairs (r, c), (r, c + 1), .., n of them
unfoldable pub row_from : ℕ → ℕ → ℕ → List (ℕ × ℕ)
row_from r c zero = []
row_from r c (suc n) = (r, c) ∷ row_from r (c + 1) n

-- the pairs of n rows from row r on, row by row, `width i` of them in row i
unfoldable pub rows_from : (ℕ → ℕ) → ℕ → ℕ → List (ℕ × ℕ)
rows_from width r zero = []
rows_from width r (suc n) = row_from r 0 (width r) ++ rows_from width (r + 1) n

-- ---- lines with a word whose indexes are prescribed: any others are out of sequence
abbrev pub prescribed_tests : ℕ × ℕ → Line → List Test
prescribed_tests i l = (in_form l.next && eqb l.first i.0 && eqb l.second i.1, 2) ∷ (is_finite l.word, 3) ∷ []

abbrev pub prescribed_verdict : ℕ × ℕ → Line → ℕ
prescribed_verdict i l = verdict_of (prescribed_tests i l)

abbrev pub word_in : ℕ → Line → ℕ
word_in line l = l.word

-- a kind of such lines: its tag, how many numbers stand before the word, and the indexes of its lines in their sequence
pub record Kind : Type 0 where
  pub tag : List ℕ
  pub numbers : ℕ
  pub indexes : List (ℕ × ℕ)

abbrev pub word_kind : List ℕ → ℕ → List (ℕ × ℕ) → Kind
word_kind tag numbers indexes = record { tag = tag; numbers = numbers; indexes = indexes }

-- the line of a kind at a position, and all its lines from a cursor on
abbrev pub kind_line : Kind → List ℕ → ℕ → Line
kind_line kind s = word_line kind.numbers kind.tag s

abbrev pub words_of : List ℕ → Kind → Cursor → Run ℕ
words_of s kind c = lines_of (kind_line kind s) prescribed_verdict word_in kind.indexes c

-- kinds one after the other: the words of each; where the lines of each start, and then where the last ends; and the cursor past them
pub record WordRuns : Type 0 where
  pub words : List (List ℕ)
  pub places : List ℕ
  pub past : Cursor

unfoldable pub runs_of : List ℕ → List Kind → Cursor → WordRuns
runs_of s [] c = record { words = []; places = c.at ∷ []; past = c }
runs_of s (kind ∷ kinds) c =
    let run = words_of s kind c in
    let more = runs_of s kinds run.past in
    record { words = run.items ∷ more.words; places = c.at ∷ more.places; past = more.past }

-- ---- block lines: levels and effects per level
pub record Block : Type 0 where
  pub m : ℕ
  pub e : ℕ

abbrev pub block_in : ℕ → Line → Block
block_in line l = record { m = l.first; e = l.second }

abbrev pub is_between : ℕ → ℕ → ℕ → Bool
is_between low x high = leb low x && leb x high

abbrev pub block_tests : Line → List Test
block_tests l = (in_form l.next, 2) ∷ (is_between 1 l.first 65535 && is_between 1 l.second 16, 4) ∷ []

abbrev pub block_verdict : ℕ × ℕ → Line → ℕ
block_verdict i l = verdict_of (block_tests l)

abbrev pub blocks_of : List ℕ → ℕ → Cursor → Run Block
blocks_of s k c = lines_of (block_line s) block_verdict block_in (rows_from (λ r. 1) 0 k) c

-- ---- zz lines, with their numbers
pub record Entry : Type 0 where
  pub line : ℕ
  pub col : ℕ
  pub row : ℕ
  pub word : ℕ

abbrev pub entry_in : ℕ → Line → Entry
entry_in line l = record { line = line; col = l.first; row = l.second; word = l.word }

-- (col, row) is not before (col₀, row₀), by column then row
abbrev pub not_before : ℕ → ℕ → ℕ → ℕ → Bool
not_before col₀ row₀ col row = ltb col₀ col || (eqb col₀ col && leb row₀ row)

-- a zz line where (col, row) is the first place that comes past the line before: in form and rising, finite, and within q columns and rows
abbrev pub entry_tests : ℕ → ℕ → ℕ → Line → List Test
entry_tests q col row l =
    (in_form l.next && not_before col row l.first l.second, 2)
    ∷ (is_finite l.word, 3)
    ∷ (ltb l.first q && ltb l.second q, 4)
    ∷ []

abbrev pub entry_verdict : ℕ → ℕ → ℕ → Line → ℕ
entry_verdict q col row l = verdict_of (entry_tests q col row l)

-- All zz lines from the cursor on, `left` of them at most. The first line with another tag ends them.
unfoldable pub entries_from : ℕ → List ℕ → ℕ → ℕ → ℕ → Cursor → Run Entry
entries_from zero s q col row c = ended c
entries_from (suc left) s q col row c =
    let l = pair_line zz_tag s c.at in
    let more = entries_from left s q l.first (l.second + 1) (pass_of c (entry_verdict q col row l) l.next) in
    let run = before (entry_in c.line l) more in
    cond (eqb c.number 0 && in_form (tag_to zz_tag s c.at).next) run (ended c)

-- ---- lines by their positions: n lines from `at` on, each where the one before ends, the first with the number `line`
unfoldable pub kept_from : {A : Type 0} → (ℕ → Line) → (ℕ → Line → A) → ℕ → ℕ → ℕ → List A
kept_from read keep zero line at = []
kept_from read keep (suc n) line at = keep line (read at) ∷ kept_from read keep n (line + 1) (read at).next

-- the position past them
unfoldable pub past_from : (ℕ → Line) → ℕ → ℕ → ℕ
past_from read zero at = at
past_from read (suc n) at = past_from read n (read at).next

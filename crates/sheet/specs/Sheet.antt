-- A sheet as read (document 01, Record 1), and its refusals 1 to 4: 1 first; then the lines downwards, on a line 2, 3, 4.
use Rattle.std.specs.Prelude.{ℕ, zero, suc, ◌+◌, Bool, ◌&&◌, cond, List, [], ◌∷◌, length, get_or, ltb, eqb}
use Rattle.sheet.specs.declared.Counts.{Counts}
use Rattle.sheet.specs.declared.Size.{Size}
use Rattle.sheet.specs.declared.Starts.{Starts}
use Rattle.sheet.specs.Line.{zx_tag, zy_tag, xx_tag, xy_tag, yy_tag, in_form, size_line, Test, verdict_of}
use Rattle.sheet.specs.Run.{Cursor, Block, Entry, Kind, WordRuns, is_between, rows_from, blocks_of, entries_from, word_kind, runs_of}

-- The numbers and words of a sheet. Words are bits: zx by row then c, xx by rows of the lower triangle.
pub record Sheet : Type 0 where
  pub counts : Counts
  pub blocks : List Block
  pub zz : List Entry
  pub zx : List ℕ
  pub zy : List ℕ
  pub xx : List ℕ
  pub xy : List ℕ
  pub yy : ℕ

-- the words kind by kind, as word_kinds lists the kinds; and a sheet of such lists
abbrev pub word_lists : Sheet → List (List ℕ)
word_lists sheet = sheet.zx ∷ sheet.zy ∷ sheet.xx ∷ sheet.xy ∷ (sheet.yy ∷ []) ∷ []

abbrev pub sheet_with : Counts → List Block → List Entry → List (List ℕ) → Sheet
sheet_with z blocks zz words =
    record {
      counts = z;
      blocks = blocks;
      zz = zz;
      zx = get_or words 0 [];
      zy = get_or words 1 [];
      xx = get_or words 2 [];
      xy = get_or words 3 [];
      yy = get_or (get_or words 4 []) 0 0;
    }

-- where the lines of each kind start, and then where the last ends; and starts of such places
abbrev pub word_places : Starts → List ℕ
word_places starts = starts.zx ∷ starts.zy ∷ starts.xx ∷ starts.xy ∷ starts.yy ∷ starts.end ∷ []

abbrev pub starts_from : Counts → ℕ → ℕ → WordRuns → Starts
starts_from z block zz runs =
    record {
      counts = z;
      block = block;
      zz = zz;
      zx = get_or runs.places 0 0;
      zy = get_or runs.places 1 0;
      xx = get_or runs.places 2 0;
      xy = get_or runs.places 3 0;
      yy = get_or runs.places 4 0;
      end = runs.past.at;
      line = runs.past.line;
    }

-- what bytes hold: a sheet, with the places where its lines start; or a refusal's number and its line, 0 for none
pub data Outcome : Type 0 where
  accepted : Sheet → Starts → Outcome
  refused : ℕ → ℕ → Outcome

-- the ranges of the size line
abbrev pub counts_within : Counts → Bool
counts_within z =
    is_between 1 z.n 1000000000 && is_between 1 z.p 32 && is_between 0 z.q 524280 && is_between 0 z.k 8 && is_between 0 z.flag 1

-- the size line: in form, and within its ranges
abbrev pub size_tests : Size → List Test
size_tests z = (in_form z.next, 2) ∷ (counts_within z.counts, 4) ∷ []

abbrev pub size_verdict : Size → ℕ
size_verdict z = verdict_of (size_tests z)

-- the kinds of lines after the zz lines, in their sequence: zx, q rows of p; zy, q rows of one; xx, p rows of 1, 2, .. p; xy, p rows of one; yy, one line
abbrev pub word_kinds : Counts → List Kind
word_kinds z =
    word_kind zx_tag 2 (rows_from (λ r. z.p) 0 z.q)
    ∷ word_kind zy_tag 1 (rows_from (λ r. 1) 0 z.q)
    ∷ word_kind xx_tag 2 (rows_from (λ r. r + 1) 0 z.p)
    ∷ word_kind xy_tag 1 (rows_from (λ r. 1) 0 z.p)
    ∷ word_kind yy_tag 0 ((0, 0) ∷ [])
    ∷ []

-- the outcome at the cursor past the yy line
abbrev pub outcome_at : Cursor → Sheet → Starts → Outcome
outcome_at c sheet starts = cond (eqb c.number 0) (accepted sheet starts) (refused c.number c.line)

-- The lines after the size line: k block lines; zz lines, of which there are fewer than bytes (proofs/Enough.antt); then the kinds with a word.
unfoldable pub read_lines : List ℕ → Counts → Cursor → Outcome
read_lines s z c =
    let blocks = blocks_of s z.k c in
    let zz = entries_from (length s) s z.q 0 0 blocks.past in
    let runs = runs_of s (word_kinds z) zz.past in
    outcome_at runs.past (sheet_with z blocks.items zz.items runs.words) (starts_from z c.at blocks.past.at runs)

-- after a size line with this verdict: the counts of one in order govern the lines that follow
abbrev pub after_size : ℕ → List ℕ → Size → Outcome
after_size zero s z = read_lines s z.counts (record { at = z.next; line = 2; number = 0 })
after_size (suc number) s z = refused (suc number) 1

-- A sheet, and anything behind its yy line.
unfoldable pub read_sheet : List ℕ → Outcome
read_sheet s =
    let z = size_line s 0 in
    let lines = after_size (size_verdict z) s z in
    cond (ltb 16777216 (length s)) (refused 1 0) lines

-- with anything behind the yy line refused, as a line left over
abbrev pub alone : List ℕ → Outcome → Outcome
alone s (accepted sheet starts) = cond (eqb starts.end (length s)) (accepted sheet starts) (refused 2 starts.line)
alone s (refused number line) = refused number line

-- The sheet that load is given: all of the bytes.
unfoldable pub sheet_of : List ℕ → Outcome
sheet_of s = alone s (read_sheet s)

-- Entries in the columns of one block and the rows of another (document 01, Record 2).
use Rattle.std.specs.Prelude.{ℕ, ◌+◌, Bool, false, not, ◌&&◌, cond, List, [], ◌∷◌, ltb, leb, eqb}
use Rattle.sheet.specs.Line.{zz_tag, pair_line}
use Rattle.sheet.specs.Run.{Entry, entry_in, kept_from}
use Rattle.heading_format.specs.Heading.{every, bit}
use Rattle.workspace.specs.Loaded.{count_of}

-- x is one of the n numbers from a on
abbrev pub in_run : ℕ → ℕ → ℕ → Bool
in_run a n x = leb a x && ltb x (a + n)

-- an entry in column c of those from `from` on, and in one of the rows
abbrev pub in_column : ℕ → ℕ → ℕ → ℕ → Entry → Bool
in_column from at rows c e = eqb e.col (from + c) && in_run at rows e.row

-- each of the columns has exactly one entry in these rows
abbrev pub each_one : ℕ → ℕ → ℕ → ℕ → List Entry → Bool
each_one from cols at rows zz = every (λ c. eqb (count_of (in_column from at rows c) zz) 1) cols

-- an entry in one of the columns and one of the rows
abbrev pub in_pair : ℕ → ℕ → ℕ → ℕ → Entry → Bool
in_pair from cols at rows e = in_run from cols e.col && in_run at rows e.row

-- One pass over rising entries, `due` being the column whose entry comes next: each entry of the pair stands in that column, and at the end all columns
-- have had theirs.
unfoldable pub in_turn : ℕ → ℕ → ℕ → ℕ → ℕ → List Entry → Bool
in_turn from cols at rows due [] = eqb due (from + cols)
in_turn from cols at rows due (e ∷ l) =
    let rest = in_turn from cols at rows (due + bit (in_pair from cols at rows e)) l in
    cond (in_pair from cols at rows e && not (eqb e.col due)) false rest

-- the entries of the n lines from a position on
abbrev pub entries_at : List ℕ → ℕ → ℕ → List Entry
entries_at s n at = kept_from (pair_line zz_tag s) entry_in n 0 at

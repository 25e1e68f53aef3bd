-- Bytes written as text, for examples; no contract cites this file.
use Rattle.std.specs.Prelude.{ℕ, ◌-◌, cond, List, [], ◌∷◌, ◌++◌, set, eqb}
use Prim.Native.Char.{code}
use Prim.Native.String.{String, [] as ε, ◌∷◌ as ◌then◌}
use Rattle.sheet.specs.Field.{digit_of, digits_from, number_at, end_at, word_at, tag_at, is_finite, is_zero}
use Rattle.sheet.specs.Line.{tab, lf, size_line, block_line, pair_line, single_line, bare_line}
use Rattle.sheet.specs.Run.{pass_of, lines_of, row_from, rows_from, runs_of, entries_from}
use Rattle.sheet.specs.Sheet.{read_lines, read_sheet}
use Rattle.sheet.specs.Fault.{any_of, covered_rows, block_of_row, any_faulty, first_line, faulty_line, fault_number}

-- the bytes of a text in which a blank stands for a tab, and _ for a blank
unfoldable pub bytes_of : String → List ℕ
bytes_of ε = []
bytes_of (c then rest) = cond (eqb (code c) 32) tab (cond (eqb (code c) 95) 32 (code c)) ∷ bytes_of rest

-- the bytes of lines, each ended by one LF
unfoldable pub ended : List String → List ℕ
unfolding bytes_of
ended [] = []
ended (l ∷ rest) = bytes_of l ++ (lf ∷ ended rest)

-- another text for line n, counted from 1
abbrev pub with_line : ℕ → String → List String → List String
with_line n l lines = set lines (n - 1) l

-- Only a name: a proof that unfolds it unfolds all that reading a sheet, and looking for 5 to 9, come down to.
unfoldable pub reading : ℕ
unfolding digit_of digits_from number_at end_at word_at tag_at is_finite size_line block_line pair_line single_line bare_line pass_of lines_of row_from rows_from runs_of entries_from read_lines read_sheet is_zero any_of covered_rows block_of_row any_faulty first_line faulty_line fault_number
reading = 0

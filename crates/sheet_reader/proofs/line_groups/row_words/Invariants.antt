-- `sheet_reader::line_groups::row_words`: the lines that are left still end as the whole row does.
use Rattle.sheet.specs.Line.{word_line}
use Rattle.sheet.specs.Run.{cursor_at, lines_of, row_from, prescribed_verdict, word_in}
use Rattle.sheet_reader.proofs.line_verdict.Runs.{Row}
use Rattle.sheet_reader.proofs.line_groups.row_words.Given as goal

abbrev pub invariant-loop-col : goal.invariant-loop-col
invariant-loop-col l = Row (word_line l.numbers l.t l.bytes) prescribed_verdict word_in (lines_of (word_line l.numbers l.t l.bytes) prescribed_verdict word_in (row_from l.row 0 l.width) (cursor_at l.fn.from)).past l.row l.col l.width (cursor_at l.p)

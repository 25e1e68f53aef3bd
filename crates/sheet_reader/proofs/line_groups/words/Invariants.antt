-- `sheet_reader::line_groups::words`: the rows that are left still end as the whole run does.
use Rattle.std.proofs.Common.{◌+◌, ◌*◌}
use Rattle.sheet.specs.Line.{word_line}
use Rattle.sheet.specs.Run.{cursor_at, rows_from, prescribed_verdict, word_in, word_kind, words_of}
use Rattle.sheet_reader.proofs.line_verdict.Runs.{Rows}
use Rattle.sheet_reader.proofs.line_groups.words.Given as goal

abbrev pub invariant-loop-r : goal.invariant-loop-r
invariant-loop-r l = Rows (word_line l.numbers l.t l.bytes) prescribed_verdict word_in (λ i. l.first + l.step * i) (words_of l.bytes (word_kind l.t l.numbers (rows_from (λ i. l.first + l.step * i) 0 l.rows)) (cursor_at l.fn.from)).past l.r l.rows (cursor_at l.p)

-- `sheet_reader::line_groups::blocks`: the lines that are left still end as the whole run does.
use Rattle.sheet.specs.Line.{block_line}
use Rattle.sheet.specs.Run.{cursor_at, block_verdict, block_in, blocks_of}
use Rattle.sheet_reader.proofs.line_verdict.Runs.{Rows}
use Rattle.sheet_reader.proofs.line_groups.blocks.Given as goal

abbrev pub invariant-loop-i : goal.invariant-loop-i
invariant-loop-i l = Rows (block_line l.bytes) block_verdict block_in (λ r. 1) (blocks_of l.bytes l.k (cursor_at l.fn.from)).past l.i l.k (cursor_at l.p)

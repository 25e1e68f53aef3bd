-- `sheet_reader::line_groups::entries`: the lines that are left still end as the whole run does.
use Rattle.std.proofs.Common.{length}
use Rattle.sheet.specs.Run.{cursor_at, entries_from}
use Rattle.sheet_reader.proofs.line_verdict.Runs.{Entries}
use Rattle.sheet_reader.proofs.line_groups.entries.Given as goal

abbrev pub invariant-loop-i : goal.invariant-loop-i
invariant-loop-i l = Entries (entries_from (length l.bytes) l.bytes l.q 0 0 (cursor_at l.fn.from)).past l.bytes l.q l.i (length l.bytes) l.col l.row (cursor_at l.p)

-- `layout_gate::column_entries::in_turn`: from the column that is due the lines that are left come to what all come to.
use Rattle.layout_gate.specs.column_entries.Columns.{in_turn, entries_at}
use Rattle.layout_gate.proofs.column_entries.Lines.{Turn}
use Rattle.layout_gate.proofs.column_entries.in_turn.Given as goal

abbrev pub invariant-loop-turn : goal.invariant-loop-turn
invariant-loop-turn l = Turn (in_turn l.from l.cols l.at l.rows l.from (entries_at l.bytes l.n l.start)) l.bytes l.from l.cols l.at l.rows l.p l.n l._turn l.due

use Rattle.layout_gate.proofs.column_entries.Lines.{turn_none, pair_tested, turn_more, turn_other, turn_fits, turn_done}
use Rattle.layout_gate.proofs.column_entries.in_turn.Goals as goal

pub loop-turn-init : goal.loop-turn-init
loop-turn-init c = search turn_none

pub returns-then-here-l : goal.returns-then-here-l
returns-then-here-l c = turn_other c.loop-turn.invariant c.loop-turn-test.true c.entry_line-l.ensures (pair_tested c.in_run.ensures c.in_run-in-loop-turn.ensures) c.if-here-l.true

pub overflow_add-due : goal.overflow_add-due
overflow_add-due c = record {
  fits = turn_fits c.loop-turn.invariant c.loop-turn-test.true c.entry_line-l.ensures (pair_tested c.in_run.ensures c.in_run-in-loop-turn.ensures) c.if-here-l.false c.from-due.ensures c.requires.0;
}

pub loop-turn-preserved : goal.loop-turn-preserved
loop-turn-preserved c = turn_more c.loop-turn.invariant c.loop-turn-test.true c.entry_line-l.ensures (pair_tested c.in_run.ensures c.in_run-in-loop-turn.ensures) c.if-here-l.false c.from-due.ensures

pub returns : goal.returns
returns c = search turn_done

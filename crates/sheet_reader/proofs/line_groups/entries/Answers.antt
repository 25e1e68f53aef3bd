use Rattle.std.proofs.Common.{arith}
use Rattle.std.proofs.lemmas.Result.{err_from_is_err_and}
use Rattle.sheet_reader.proofs.line_verdict.Runs.{entries_start, entries_other, entries_next, entries_refused, entries_end, entries_few, second_cap}
use Rattle.sheet_reader.proofs.line_groups.entries.Goals as goal

pub loop-i-init : goal.loop-i-init
loop-i-init c = entries_start c.requires

pub returns-then-t-clause-past : goal.returns-then-t-clause-past
returns-then-t-clause-past c = search entries_other

pub returns-then-t-clause-few : goal.returns-then-t-clause-few
returns-then-t-clause-few c = entries_few _ _ _ _ _ (entries_other c.loop-i.invariant c.loop-i-test.true c.tag-t.ensures c.if-t.true)

pub entry-requires : goal.entry-requires
entry-requires c = omega (arith, c.loop-i.invariant.room)

pub returns-in_err-p-clause-past : goal.returns-in_err-p-clause-past
returns-in_err-p-clause-past c = let p = err_from_is_err_and c.from_residual.result c.from_residual.ensures.1 in rw (p.1, p.2) (entries_refused c.loop-i.invariant c.loop-i-test.true c.tag-t.ensures c.if-t.false c.pair_line-l.ensures c.in_err-p.ensures)

pub overflow_add-row : goal.overflow_add-row
overflow_add-row c = record { fits = omega (arith, second_cap _ _ _ _ c.pair_line-l.ensures) }

pub loop-i-preserved : goal.loop-i-preserved
loop-i-preserved c = entries_next c.loop-i.invariant c.loop-i-test.true c.tag-t.ensures c.if-t.false c.pair_line-l.ensures c.in_ok-p.ensures

pub returns-clause-past : goal.returns-clause-past
returns-clause-past c = search entries_end

pub returns-clause-few : goal.returns-clause-few
returns-clause-few c = entries_few _ _ _ _ _ (entries_end c.loop-i.invariant (omega arith))

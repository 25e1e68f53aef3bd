use Rattle.sheet_checks.proofs.mirror_scan.Passes.{first_fits, number_fits, none_there, sought_start, sought_on, sought_hit, sought_out}
use Rattle.sheet_checks.proofs.mirror.line_number_at.Goals as goal

pub returns-then-at-starts : goal.returns-then-at-starts
returns-then-at-starts c = none_there c.requires c.if-at-starts.true

pub overflow_add-first : goal.overflow_add-first
overflow_add-first c = search first_fits

pub loop-i-init : goal.loop-i-init
loop-i-init c = search sought_start

pub overflow_add-result : goal.overflow_add-result
overflow_add-result c = search number_fits

pub returns-then-place-at : goal.returns-then-place-at
returns-then-place-at c = sought_hit c.requires c.loop-i.invariant c.loop-i-test.true c.if-place-at.true

pub loop-i-preserved : goal.loop-i-preserved
loop-i-preserved c = sought_on c.requires c.loop-i.invariant c.loop-i-test.true c.if-place-at.false c.pair_line-l.ensures

pub returns : goal.returns
returns c = sought_out c.requires c.loop-i.invariant c.loop-i-test.false

use native.Mathlib.Omega.{arith}
use Rattle.std.proofs.lemmas.Result.{err_from_is_err_and}
use Rattle.factor_text.proofs.theta_part.Theta.{part_start, part_refused, part_next, part_past, part_all}
use Rattle.factor_text.proofs.theta_part.read_theta.Goals as goal

pub loop-i-init : goal.loop-i-init
loop-i-init c = search part_start

pub returns-in_err-p-clause-past : goal.returns-in_err-p-clause-past
returns-in_err-p-clause-past c = let p = err_from_is_err_and c.from_residual.result c.from_residual.ensures.1 in rw (p.1, p.2)
    (part_refused c.loop-i.invariant c.loop-i-test.true c.single_line-l.ensures c.in_err-p.ensures)

pub loop-i-preserved : goal.loop-i-preserved
loop-i-preserved c = part_next c.loop-i.invariant c.loop-i-test.true c.single_line-l.ensures c.double.ensures c.in_ok-p.ensures

pub returns-clause-past : goal.returns-clause-past
returns-clause-past c = part_past c.loop-i.invariant (omega arith)

pub returns-clause-items : goal.returns-clause-items
returns-clause-items c = part_all c.loop-i.invariant (omega arith)

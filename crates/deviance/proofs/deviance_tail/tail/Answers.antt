-- `deviance::deviance_tail::tail`: no scale, or the value.
use Rattle.deviance.proofs.deviance_tail.Tails.{no_scale_lem, scaled}
use Rattle.deviance.proofs.deviance_tail.tail.Goals as goal

pub returns-then-r2-d : goal.returns-then-r2-d
returns-then-r2-d c = let a = c.args in no_scale_lem a.layout a.doubles.now a.logdet a.reml _ _ c.last_pivot-pivot.ensures c.freedom-d.ensures c.if-r2-d.true

pub returns : goal.returns
returns c = let a = c.args in scaled a.layout a.doubles.now a.logdet a.reml _ _ c.last_pivot-pivot.ensures c.freedom-d.ensures _ c.if-r2-d.false c.value.ensures

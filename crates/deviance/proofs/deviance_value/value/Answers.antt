-- `deviance::deviance_value::value`: in the order that the definition has, with and without the pivots' logarithms.
use Prim.{tt}
use lib.Ieee.{nan_bits}
use Rattle.deviance.proofs.deviance_value.Values.{value_ml, value_reml}
use Rattle.deviance.proofs.deviance_value.value.Goals as goal

pub float_from_bits-ln : goal.float_from_bits-ln
unfolding nan_bits
float_from_bits-ln c = tt

pub returns-then-reml : goal.returns-then-reml
returns-then-reml c = let a = c.args in
    value_reml a.reml a.d a.s a.logdet a.b.rows _ _ c.ln.ensures _ c.if-reml.true c.log_pivots.ensures

pub returns : goal.returns
returns c = let a = c.args in
    value_ml a.reml a.d a.s a.logdet a.b.rows _ _ c.ln.ensures c.if-reml.false

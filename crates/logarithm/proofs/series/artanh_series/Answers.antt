use Rattle.std.proofs.Common.{◌+◌, ◌-◌, ◌*◌, div-le_self, arith}
use Rattle.logarithm.proofs.series.Words.{four, first_term, next_term, term_fits, last_term}
use Rattle.logarithm.proofs.series.artanh_series.Goals as goal

pub loop-k-init : goal.loop-k-init
loop-k-init c = first_term _

pub overflow_add-s-in-loop-k : goal.overflow_add-s-in-loop-k
overflow_add-s-in-loop-k c = omega (arith, term_fits _ _ _ _ _ c.requires c.loop-k.invariant (four _ _ c.high-t.ensures) c.high.ensures, div-le_self 4611686018427387904 (2 * (c.loop-k.k - 1) + 1))

pub loop-k-preserved : goal.loop-k-preserved
loop-k-preserved c = next_term _ _ _ _ _ c.loop-k.invariant c.loop-k-test.true (four _ _ c.high-t.ensures) c.high.ensures

pub returns : goal.returns
returns c = last_term _ _ _ _ _ _ c.loop-k.invariant c.loop-k-test.false (four _ _ c.high-t.ensures) c.high-2.ensures c.high-3.ensures

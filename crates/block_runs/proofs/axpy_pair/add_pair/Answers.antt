use native.Mathlib.Omega.{arith}
use Rattle.block_runs.proofs.axpy.Sums.{sum_with}
use Rattle.storage.proofs.Filling.{filling_none, array_more, filling_done}
use Rattle.block_runs.proofs.axpy_pair.add_pair.Goals as goal

pub loop-i-init : goal.loop-i-init
loop-i-init g c = let a = c.args in (filling_none _ 0 a.n a.acc.now (omega arith), filling_none _ 0 a.n a.acc2.now (omega arith))

pub loop-i-preserved : goal.loop-i-preserved
loop-i-preserved g c = let l = c.loop-i.invariant in (
  array_more l.0 (omega arith) (sum_with _ _ _ l.0 c.with_products-s.ensures),
  array_more l.1 (omega arith) (sum_with _ _ _ l.1 c.with_products-t.ensures),
)

pub returns : goal.returns
returns g c = let l = c.loop-i.invariant in record { acc_after = filling_done l.0 (omega arith); acc2_after = filling_done l.1 (omega arith) }

use native.Mathlib.Omega.{arith}
use Rattle.block_runs.proofs.axpy.Sums.{sum_with}
use Rattle.storage.proofs.Filling.{filling_none, array_more, filling_done}
use Rattle.block_runs.proofs.axpy.add.Goals as goal

pub loop-i-init : goal.loop-i-init
loop-i-init g c = let a = c.args in filling_none _ 0 a.n a.acc.now (omega arith)

pub loop-i-preserved : goal.loop-i-preserved
loop-i-preserved g c = array_more c.loop-i.invariant (omega arith) (sum_with _ _ _ c.loop-i.invariant c.with_products.ensures)

pub returns : goal.returns
returns g c = filling_done c.loop-i.invariant (omega arith)

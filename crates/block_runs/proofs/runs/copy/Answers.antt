use mathlib.Core.Path.{refl}
use native.Mathlib.Omega.{arith}
use Rattle.storage.proofs.Filling.{filling_none, filling_more, filling_done}
use Rattle.block_runs.proofs.runs.copy.Goals as goal

pub loop-i-init : goal.loop-i-init
loop-i-init c = let a = c.args in filling_none _ a.to a.n a.t.now (omega arith)

pub loop-i-preserved : goal.loop-i-preserved
loop-i-preserved c = filling_more c.loop-i.invariant (omega arith) refl

pub returns : goal.returns
returns c = filling_done c.loop-i.invariant (omega arith)

use native.Mathlib.Omega.{arith}
use Rattle.storage.proofs.Starts.{start_single}
use Rattle.storage.proofs.Filling.{filling_none, filling_done}
use Rattle.re_factor.proofs.Turns.{divide_turn}
use Rattle.re_factor.proofs.block_divide.divide.Goals as goal

pub loop-i-init : goal.loop-i-init
loop-i-init c = let a = c.args in (filling_none _ a.z a.b.rows a.v.now (omega arith), omega (arith, start_single a.b.rows))

pub loop-i-preserved : goal.loop-i-preserved
loop-i-preserved c = let i = c.loop-i.invariant in
    (divide_turn c.args.b c.args.doubles.now c.requires.1 i.0 (omega arith), i.1)

pub returns : goal.returns
returns c = filling_done c.loop-i.invariant.0 (omega arith)

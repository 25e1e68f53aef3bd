use mathlib.Core.Path.{ap}
use native.Mathlib.Omega.{arith}
use lib.Ieee.{nan}
use Rattle.storage.proofs.Filling.{filling_none, filling_apart, filling_more, filling_done}
use Rattle.rules.specs.Arithmetic.{ieee}
use Rattle.rules.specs.Begin.{fixed_cell}
use Rattle.cross_block.proofs.Turns.{as_shape}
use Rattle.cross_block.proofs.scaling.scale_once.Goals as goal

pub loop-i-init : goal.loop-i-init
loop-i-init c = let a = c.args in filling_none _ a.off a.n a.doubles.now (omega arith)

pub loop-i-preserved : goal.loop-i-preserved
loop-i-preserved c = let a = c.args in let l = c.loop-i in
    filling_more l.invariant (omega arith) (ap (fixed_cell ieee a.t) (filling_apart l.invariant nan a.src a.n c.requires.apart l.i (omega arith)))

pub returns : goal.returns
returns c = let a = c.args in
    as_shape a.off a.n a.src a.doubles.now (fixed_cell ieee a.t) (omega arith) _ (filling_done c.loop-i.invariant (omega arith))

use native.Mathlib.Omega.{arith}
use Rattle.layout_gate.proofs.Picking.{picked_start, picked_more, picked_done, block_below}
use Rattle.layout_gate.proofs.sorted_levels.Goals as goal

pub loop-i-init : goal.loop-i-init
loop-i-init c = picked_start _ _ _ c.requires

pub offset_bounds-m-order : goal.offset_bounds-m-order
offset_bounds-m-order c = omega (arith, block_below c.loop-i.invariant (omega arith))

pub bounds-m-order : goal.bounds-m-order
bounds-m-order c = block_below c.loop-i.invariant (omega arith)

pub loop-i-preserved : goal.loop-i-preserved
loop-i-preserved c = picked_more c.loop-i.invariant (omega arith)

pub returns : goal.returns
returns c = picked_done c.loop-i.invariant (omega arith)

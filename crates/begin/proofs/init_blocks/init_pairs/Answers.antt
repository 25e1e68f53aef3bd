use native.Mathlib.Omega.{arith}
use Rattle.block_places.proofs.block_sizes.Growing.{pairs_grow}
use Rattle.begin.proofs.scaled_blocks.Blocks.{scaling_none, scaling_more, scaling_all}
use Rattle.begin.proofs.init_blocks.init_pairs.Goals as goal

pub loop-i-init : goal.loop-i-init
loop-i-init c = scaling_none pairs_grow

pub init_row-requires : goal.init_row-requires
init_row-requires c = let l = c.loop-i in
    (record { valid = c.requires.0.valid; room = omega (arith, c.requires.0.room, l.invariant.long) }, c.requires.1, omega (arith, c.loop-i-test.true))

pub loop-i-preserved : goal.loop-i-preserved
loop-i-preserved c = scaling_more c.loop-i.invariant c.loop-i-test.true c.init_row.ensures (omega arith)

pub shape_of-doubles : goal.shape_of-doubles
shape_of-doubles c = c.loop-i.invariant.long

pub returns : goal.returns
returns c = scaling_all c.loop-i.invariant (omega arith)

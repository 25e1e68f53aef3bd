use mathlib.Core.Path.{refl}
use native.Mathlib.Omega.{arith}
use Rattle.block_places.proofs.block_sizes.Growing.{factors_grow}
use Rattle.begin.proofs.scaled_blocks.Blocks.{scaling_none, scaling_block, scaling_all}
use Rattle.begin.proofs.init_blocks.init_factors.Goals as goal

pub loop-j-init : goal.loop-j-init
loop-j-init c = scaling_none factors_grow

pub init_factor-requires : goal.init_factor-requires
init_factor-requires c = let l = c.loop-j in
    (record { valid = c.requires.0.valid; room = omega (arith, c.requires.0.room, l.invariant.long) }, c.requires.1, c.loop-j-test.true)

pub loop-j-preserved : goal.loop-j-preserved
loop-j-preserved c = scaling_block c.loop-j.invariant refl c.loop-j-test.true c.init_factor.ensures (omega arith)

pub shape_of-doubles : goal.shape_of-doubles
shape_of-doubles c = c.loop-j.invariant.long

pub returns : goal.returns
returns c = scaling_all c.loop-j.invariant (omega arith)

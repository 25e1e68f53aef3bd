use Prim.Native.Nat.{◌<◌}
use native.Mathlib.Omega.{arith}
use Rattle.solution_vectors.proofs.Vectors.{blockwise_none, blockwise_all}
use Rattle.solution_finish.specs.b_vector.Effects.{effect_blocks}
use Rattle.solution_finish.proofs.b_vector.Scaled.{b_more}
use Rattle.solution_finish.proofs.b_vector.write_b.Goals as goal

pub loop-j-init : goal.loop-j-init
loop-j-init c = blockwise_none c.args.lent.fits.valid (omega (arith, c.requires))

pub loop-j-preserved : goal.loop-j-preserved
loop-j-preserved c = let l = c.loop-j in let t : l.j < c.args.lent.layout.k = omega arith in
    b_more c.args.lent.layout c.args.lent.fits.valid c.args.lent.heading.now c.args.lent.doubles.now l.invariant t c.scale_block.ensures

pub returns : goal.returns
unfolding effect_blocks
returns c = blockwise_all c.loop-j.invariant (omega arith)

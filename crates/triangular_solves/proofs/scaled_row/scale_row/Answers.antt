use Prim.Native.Nat.{◌<◌}
use native.Mathlib.Omega.{arith}
use Rattle.solution_vectors.proofs.Vectors.{blockwise_none, blockwise_more, blockwise_list}
use Rattle.triangular_solves.proofs.scaled_row.Scaled.{row_sized}
use Rattle.triangular_solves.proofs.scaled_row.scale_row.Goals as goal

pub loop-j-init : goal.loop-j-init
loop-j-init c = blockwise_none c.args.lent.fits.valid c.requires.1

pub loop-j-preserved : goal.loop-j-preserved
loop-j-preserved c = let l = c.loop-j in let t : l.j < c.args.lent.layout.k = omega arith in
    blockwise_more l.invariant t ((row_sized c.args.lent.heading.now c.args.lent.doubles.now c.args.lent.layout c.args.lent.fits c.args.r).each l.j t) c.scale_block.ensures

pub returns : goal.returns
returns c = blockwise_list c.loop-j.invariant (row_sized c.args.lent.heading.now c.args.lent.doubles.now c.args.lent.layout c.args.lent.fits c.args.r) (omega arith)

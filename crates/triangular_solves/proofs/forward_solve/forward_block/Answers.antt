use native.Mathlib.Omega.{arith}
use Rattle.solution_vectors.proofs.solve_laws.Folds.{forward_start, forward_more, forward_end}
use Rattle.triangular_solves.proofs.forward_solve.forward_block.Goals as goal

pub loop-j-init : goal.loop-j-init
loop-j-init c = forward_start _ _ c.args.lent.fits.valid c.requires.0 c.requires.1

pub loop-j-preserved : goal.loop-j-preserved
loop-j-preserved c = forward_more _ _ c.loop-j.invariant c.loop-j-test.true c.subtract_forward.ensures

pub returns : goal.returns
returns c =
    forward_end _ _ c.args.lent.fits.same c.loop-j.invariant (omega arith) c.forward_in.ensures

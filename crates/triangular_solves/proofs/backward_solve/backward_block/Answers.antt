use mathlib.Core.Path.{refl}
use native.Mathlib.Omega.{arith}
use Rattle.solution_vectors.proofs.solve_laws.Folds.{backward_start, backward_more, backward_end}
use Rattle.triangular_solves.proofs.backward_solve.backward_block.Goals as goal

pub loop-j-init : goal.loop-j-init
loop-j-init c = backward_start _ _ c.args.lent.fits.valid c.requires.0 c.requires.1 refl

pub loop-j-preserved : goal.loop-j-preserved
loop-j-preserved c = backward_more _ _ c.loop-j.invariant c.loop-j-test.true c.subtract_backward.ensures

pub returns : goal.returns
returns c = backward_end _ _ c.args.lent.fits.same c.loop-j.invariant (omega arith) c.backward_in.ensures

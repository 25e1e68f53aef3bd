use native.Mathlib.Omega.{arith}
use Rattle.solution_vectors.proofs.solve_laws.Solves.{backward_begin, backward_turn, backward_result}
use Rattle.triangular_solves.proofs.backward_solve.backward_solve_ld.Goals as goal

pub loop-i-init : goal.loop-i-init
loop-i-init c = backward_begin _ _ c.args.lent.fits.valid c.requires

pub loop-i-preserved : goal.loop-i-preserved
loop-i-preserved c = backward_turn _ _ c.args.lent.fits.same c.loop-i.invariant (omega arith) c.backward_block.ensures

pub returns : goal.returns
returns c = backward_result _ _ c.loop-i.invariant (omega arith)

use native.Mathlib.Omega.{arith}
use Rattle.solution_vectors.proofs.solve_laws.Solves.{forward_begin, forward_turn, forward_result}
use Rattle.triangular_solves.proofs.forward_solve.forward_solve_ld.Goals as goal

pub loop-i-init : goal.loop-i-init
loop-i-init c = forward_begin _ _ c.args.lent.fits.valid c.requires

pub loop-i-preserved : goal.loop-i-preserved
loop-i-preserved c = forward_turn _ _ c.args.lent.fits.same c.loop-i.invariant c.loop-i-test.true c.forward_block.ensures

pub returns : goal.returns
returns c = forward_result _ _ c.loop-i.invariant (omega arith)

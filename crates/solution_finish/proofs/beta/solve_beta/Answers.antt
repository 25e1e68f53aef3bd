-- `solution_finish::beta::solve_beta`: a copy, the two substitutions, the sum, and the copy put back.
use native.Mathlib.Omega.{arith}
use Rattle.solution_finish.proofs.beta.Solved.{solved}
use Rattle.solution_finish.proofs.beta.solve_beta.Goals as goal

pub returns : goal.returns
returns c = solved c.args.off c.args.p c.args.v.now _ _ _ _ (omega (arith, c.requires.0)) c.requires.1 c.copy.ensures c.forward.ensures c.backward.ensures _ _ c.one-r.ensures c.copy-2.ensures

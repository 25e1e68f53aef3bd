-- `triangular_solves::forward_solve::forward_solve_ld`: the first i blocks are solved.
use Rattle.solution_vectors.proofs.solve_laws.Solves.{ForwardTurns}
use Rattle.triangular_solves.proofs.forward_solve.forward_solve_ld.Given as goal

abbrev pub invariant-loop-i : goal.invariant-loop-i
invariant-loop-i l = ForwardTurns l.lent.heading.now l.lent.doubles.now l.lent.layout l.from l.initial.v l.v l.i

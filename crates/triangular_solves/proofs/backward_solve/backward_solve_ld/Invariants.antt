-- `triangular_solves::backward_solve::backward_solve_ld`: the blocks from i on are solved.
use Rattle.solution_vectors.proofs.solve_laws.Solves.{BackwardTurns}
use Rattle.triangular_solves.proofs.backward_solve.backward_solve_ld.Given as goal

abbrev pub invariant-loop-i : goal.invariant-loop-i
invariant-loop-i l = BackwardTurns l.lent.heading.now l.lent.doubles.now l.lent.layout l.from l.initial.v l.v l.i

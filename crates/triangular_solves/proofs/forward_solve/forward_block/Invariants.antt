-- `triangular_solves::forward_solve::forward_block`: the first j blocks have been taken.
use Rattle.solution_vectors.proofs.solve_laws.Folds.{Forward}
use Rattle.triangular_solves.proofs.forward_solve.forward_block.Given as goal

abbrev pub invariant-loop-j : goal.invariant-loop-j
invariant-loop-j l = Forward l.lent.heading.now l.lent.doubles.now l.lent.layout l.from l.i l.initial.v l.v l.j

-- `triangular_solves::backward_solve::backward_block`: the blocks behind i and before j have been taken.
use Rattle.solution_vectors.proofs.solve_laws.Folds.{Backward}
use Rattle.triangular_solves.proofs.backward_solve.backward_block.Given as goal

abbrev pub invariant-loop-j : goal.invariant-loop-j
invariant-loop-j l = Backward l.lent.heading.now l.lent.doubles.now l.lent.layout l.from l.i l.initial.v l.v l.j

-- `solution_finish::u_vector::row_sum`: j products are summed.
use Rattle.solution_finish.proofs.u_vector.Sums.{Adding}
use Rattle.solution_finish.proofs.u_vector.row_sum.Given as goal

abbrev pub invariant-loop-j : goal.invariant-loop-j
invariant-loop-j l = Adding l.v l.from l.q l.p l.s l.at l.j

-- `solution_finish::u_vector::write_u`: the first i rows of u are written.
use Rattle.storage.proofs.Filling.{Filling}
use Rattle.solution_finish.proofs.u_vector.Sums.{offset}
use Rattle.solution_finish.proofs.u_vector.write_u.Given as goal

abbrev pub invariant-loop-i : goal.invariant-loop-i
invariant-loop-i l = Filling (offset l.wy l.first l.q l.p l.initial.v) l.u l.q l.initial.v l.v l.i

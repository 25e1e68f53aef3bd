-- `solution_finish::l_x::first_not_above`: none of the first r pivots is bad.
use Rattle.solution_finish.proofs.l_x.Finish.{Scanning}
use Rattle.solution_finish.proofs.l_x.first_not_above.Given as goal

abbrev pub invariant-loop-r : goal.invariant-loop-r
invariant-loop-r l = Scanning l.off l.n l.v l.r l.at

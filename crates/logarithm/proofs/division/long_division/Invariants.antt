-- `logarithm::division::long_division` meets its contract: the digits so far, and what is left.
use Rattle.logarithm.proofs.division.Words.{Divided}
use Rattle.logarithm.proofs.division.long_division.Given as goal

abbrev pub invariant-loop-turn : goal.invariant-loop-turn
invariant-loop-turn l = Divided l.a l.b l.q l.r l.turn

-- `sheet_checks::levels::start`: the sum so far.
use Rattle.sheet_checks.proofs.levels.Sums.{Summed}
use Rattle.sheet_checks.proofs.levels.start.Given as goal

abbrev pub invariant-loop-i : goal.invariant-loop-i
invariant-loop-i l = Summed l.m l.n l.t l.i

-- `logarithm::division::quotient_from_guess` meets its contract.
use Rattle.logarithm.proofs.division.Words.{quotient_is}
use Rattle.logarithm.proofs.division.quotient_from_guess.Goals as goal

pub returns-then-rest-lt72057594037927936 : goal.returns-then-rest-lt72057594037927936
returns-then-rest-lt72057594037927936 c = let q = c.requires in
    quotient_is c.args.a c.args.b c.args.g _ _ _ q.0 q.1 q.2 c.from-3.ensures c.from-2.ensures c.from.ensures c.if-rest-lt72057594037927936.true

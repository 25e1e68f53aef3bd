-- `number_tests::agreement::agrees` meets its contract.
use Rattle.float_bits.proofs.words.Laws.{between}
use Rattle.number_tests.proofs.agreement.agrees.Goals as goal

pub returns : goal.returns
returns c = let a = c.args in
    between a.lower a.upper a.r c.word_of.ensures c.rank-w.ensures c.rank.ensures c.rank-2.ensures

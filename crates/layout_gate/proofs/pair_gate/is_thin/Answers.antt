-- `layout_gate::pair_gate::is_thin`: as defined, on numbers that are doubles.
use borrow.Author.Rules.{rules}
use Rattle.layout_gate.proofs.pair_gate.Answers.{whole}
use Rattle.layout_gate.proofs.pair_gate.is_thin.Goals as goal

pub int_to_float-result : goal.int_to_float-result
int_to_float-result c = whole c.args.entries (search rules)

pub int_to_float-result-2 : goal.int_to_float-result-2
int_to_float-result-2 c = search whole

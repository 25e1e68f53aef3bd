-- `heading::writer::put`: a list of one number.
use borrow.Author.Rules.{rules}
use Rattle.heading.proofs.Numbers.{stored_one}
use Rattle.heading.proofs.writer.put.Goals as goal

pub returns : goal.returns
returns c = stored_one _ _ _ (search rules)

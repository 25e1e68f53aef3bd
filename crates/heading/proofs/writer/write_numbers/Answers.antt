use borrow.Author.Rules.{rules}
use Rattle.storage.proofs.Filling.{filling_none, filling_more}
use Rattle.heading.proofs.Numbers.{stored_all}
use Rattle.heading.proofs.writer.write_numbers.Goals as goal

pub loop-j-init : goal.loop-j-init
loop-j-init c = search (filling_none, rules)

pub loop-j-preserved : goal.loop-j-preserved
loop-j-preserved c = search filling_more

pub returns : goal.returns
returns c = search (stored_all, rules)

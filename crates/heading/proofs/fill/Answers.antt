use native.Mathlib.Omega.{arith}
use borrow.Author.Rules.{rules}
use Rattle.storage.proofs.Filling.{filling_none, array_more}
use Rattle.heading.proofs.Numbers.{read_all}
use Rattle.heading.proofs.fill.Goals as goal

pub loop-j-init : goal.loop-j-init
loop-j-init c = filling_none _ 0 _ _ (omega arith)

pub loop-j-preserved : goal.loop-j-preserved
loop-j-preserved c = search array_more

pub returns : goal.returns
returns c = search (read_all, rules)

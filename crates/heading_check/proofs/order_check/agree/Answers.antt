use borrow.Author.Rules.{rules}
use lib.Dec.{eqb}
use lib.ListN.{get_or}
use Rattle.heading_check.proofs.order_check.Every.{every_all}
use Rattle.heading_check.proofs.order_check.agree.Goals as goal

pub returns : goal.returns
returns c = every_all (λ j. eqb (get_or c.args.a j 0) (get_or c.args.b j 0)) c.args.k c.all.ensures.ran (λ x b q k. search rules)

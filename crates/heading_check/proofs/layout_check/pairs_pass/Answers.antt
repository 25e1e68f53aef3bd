use borrow.Author.Rules.{rules}
use Rattle.heading_format.specs.Heading.{every, valid_pair}
use Rattle.heading_check.proofs.order_check.Every.{every_all}
use Rattle.heading_check.proofs.layout_check.pairs_pass.Goals as goal

pub returns : goal.returns
returns c = every_all (λ i. every (λ j. valid_pair c.args.layout.now i j) i) c.args.layout.now.k c.all.ensures.ran (λ x b q k. search rules)

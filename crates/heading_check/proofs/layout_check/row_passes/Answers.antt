use borrow.Author.Rules.{rules}
use Rattle.heading_format.specs.Heading.{valid_pair}
use Rattle.heading_check.proofs.order_check.Every.{every_all}
use Rattle.heading_check.proofs.layout_check.row_passes.Goals as goal

pub returns : goal.returns
returns c = every_all (λ j. valid_pair c.args.layout.now c.args.i j) c.args.i c.all.ensures.ran (λ x b q k. search rules)

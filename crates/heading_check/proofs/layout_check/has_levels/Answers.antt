use borrow.Author.Rules.{rules}
use Rattle.layout.specs.Shapes.{levels}
use Rattle.heading_format.specs.Heading.{within}
use Rattle.heading_check.proofs.order_check.Every.{every_all}
use Rattle.heading_check.proofs.layout_check.has_levels.Goals as goal

pub returns : goal.returns
returns c = every_all (λ j. within 1 65535 (levels c.args.layout.now j)) c.args.layout.now.k c.all.ensures.ran (λ x b q k. search rules)

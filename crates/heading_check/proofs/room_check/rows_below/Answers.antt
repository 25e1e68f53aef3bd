use borrow.Author.Rules.{rules}
use lib.Dec.{ltb}
use Rattle.heading_format.specs.Heading.{entry_row}
use Rattle.heading_check.proofs.order_check.Every.{every_all}
use Rattle.heading_check.proofs.room_check.rows_below.Goals as goal

pub returns : goal.returns
returns c = every_all (λ x. ltb (entry_row c.args.heading.now x) c.args.rows) c.args.cols c.all.ensures.ran (λ x b q k. search rules)

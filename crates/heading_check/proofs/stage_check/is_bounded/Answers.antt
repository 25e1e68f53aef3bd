use Prim.Native.Nat.{suc}
use borrow.Author.Rules.{rules}
use lib.Dec.{leb}
use Rattle.heading_format.specs.Heading.{every}
use Rattle.heading_check.specs.stage_check.Walk.{stages_in}
use Rattle.heading_check.proofs.order_check.Every.{every_through}
use Rattle.heading_check.proofs.stage_check.is_bounded.Goals as goal

pub returns : goal.returns
returns c = every_through (λ i. every (λ j. leb (stages_in c.args.heading.now i j) (suc j)) (suc i)) c.args.k c.all.ensures.ran (λ x b q k. search rules)

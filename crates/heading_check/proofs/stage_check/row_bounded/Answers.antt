use Prim.Native.Nat.{suc}
use borrow.Author.Rules.{rules}
use lib.Dec.{leb}
use Rattle.heading_check.specs.stage_check.Walk.{stages_in}
use Rattle.heading_check.proofs.order_check.Every.{every_through}
use Rattle.heading_check.proofs.stage_check.row_bounded.Goals as goal

pub returns : goal.returns
returns c = every_through (λ j. leb (stages_in c.args.heading.now c.args.i j) (suc j)) c.args.i c.all.ensures.ran (λ x b q k. search rules)

use borrow.Author.Rules.{rules}
use Prim.Native.Nat.{suc}
use Rattle.step_order.specs.Steps.{column_steps, rust_order}
use Rattle.heading_check.specs.stage_check.Walk.{stages_in}
use Rattle.heading_check.proofs.stage_check.Walks.{going_start, going_more, going_done}
use Rattle.heading_check.proofs.forerunner_check.walk_all.Goals as goal

pub loop-j-init : goal.loop-j-init
loop-j-init c = (going_start (stages_in _) _ (column_steps c.args.k) 0 (suc c.args.k) (search rules) (search rules), search rules)

pub loop-j-preserved : goal.loop-j-preserved
loop-j-preserved c = (going_more c.loop-j.invariant.0 (search rules) c.column-v.ensures.0, search rules)

pub returns : goal.returns
unfolding rust_order
returns c = going_done c.loop-j.invariant.0 (search rules)

use mathlib.Core.List.{[], ◌∷◌}
use Rattle.step_order.specs.Steps.{S}
use Rattle.heading_check.specs.stage_check.Walk.{stages_in}
use Rattle.heading_check.proofs.stage_check.Walks.{going_start, going_more, going_done, walked_one}
use mathlib.Core.Path.{◌∙◌}
use borrow.Author.Rules.{rules}
use Rattle.heading_check.proofs.forerunner_check.subtract_all.Goals as goal

pub loop-x-init : goal.loop-x-init
loop-x-init c = (going_start (stages_in _) _ (λ s. S c.args.i c.args.j s ∷ []) 0 c.args.j (search rules) (search rules), search rules)

pub loop-x-preserved : goal.loop-x-preserved
loop-x-preserved c = (going_more c.loop-x.invariant.0 (search rules) (c.subtraction-v.ensures.0 ∙ walked_one (stages_in _) _ _), search rules)

pub returns : goal.returns
returns c = (going_done c.loop-x.invariant.0 (search rules), search rules)

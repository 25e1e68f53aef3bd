use borrow.Author.Rules.{rules}
use Prim.Native.Nat.{suc, ◌-◌}
use mathlib.Core.List.{[], ◌∷◌, ◌++◌}
use Rattle.step_order.specs.Steps.{T, subtractions}
use Rattle.heading_check.specs.stage_check.Walk.{stages_in}
use Rattle.heading_check.proofs.stage_check.Walks.{going_start, going_more, going_done}
use Rattle.heading_check.proofs.forerunner_check.below.Goals as goal

pub loop-i-init : goal.loop-i-init
loop-i-init c = (going_start (stages_in _) _ (λ r. subtractions r c.args.j ++ (T r c.args.j ∷ [])) (suc c.args.j) (c.args.k - c.args.j) (search rules) (search rules), search rules, search rules)

pub loop-i-preserved : goal.loop-i-preserved
loop-i-preserved c = (going_more c.loop-i.invariant.0 (search rules) c.target-v.ensures.0, search rules, search rules)

pub returns : goal.returns
returns c = (going_done c.loop-i.invariant.0 (search rules), search rules)

-- `heading_check::stage_check::subtraction`: by the stages of its target and of the two that it reads.
use Rattle.heading_check.proofs.stage_check.Walks.{subtracted}
use Rattle.heading_check.specs.stage_check.Walk.{stages_in}
use borrow.Author.Rules.{rules}
use Rattle.heading_check.proofs.stage_check.subtraction.Goals as goal

pub returns : goal.returns
returns c = (subtracted (stages_in _) _ _ _ _ c.count_step.ensures.0 c.stage-s.ensures c.stage-a.ensures c.stage-b.ensures, search rules)

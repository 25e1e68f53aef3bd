-- `heading_check::forerunner_check::factor`: by the stage of its target.
use Rattle.heading_check.proofs.stage_check.Walks.{factored}
use Rattle.heading_check.specs.stage_check.Walk.{stages_in}
use borrow.Author.Rules.{rules}
use Rattle.heading_check.proofs.forerunner_check.factor.Goals as goal

pub returns : goal.returns
returns c = (factored (stages_in _) _ _ c.count_step.ensures.0 c.stage-s.ensures, search rules)

-- `heading_check::forerunner_check::solve`: by the stages of its target and of the factor.
use Rattle.heading_check.proofs.stage_check.Walks.{solved}
use Rattle.heading_check.specs.stage_check.Walk.{stages_in}
use borrow.Author.Rules.{rules}
use Rattle.heading_check.proofs.forerunner_check.solve.Goals as goal

pub returns : goal.returns
returns c = (solved (stages_in _) _ _ _ c.count_step.ensures.0 c.stage-s.ensures c.stage-d.ensures, search rules)

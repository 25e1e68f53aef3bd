-- `heading_check::forerunner_check::column`: the diagonal target, and those below it.
use Rattle.heading_check.proofs.stage_check.Walks.{walked_column}
use Rattle.heading_check.specs.stage_check.Walk.{stages_in}
use borrow.Author.Rules.{rules}
use Rattle.heading_check.proofs.forerunner_check.column.Goals as goal

pub returns : goal.returns
returns c = (walked_column (stages_in _) _ _ _ _ c.subtract_all-u.ensures.0 c.factor-v.ensures.0 c.below.ensures.0, search rules)

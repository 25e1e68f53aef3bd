-- `heading_check::forerunner_check::target`: the subtractions, and the solve behind them.
use Rattle.heading_check.proofs.stage_check.Walks.{walked_then}
use Rattle.heading_check.specs.stage_check.Walk.{stages_in}
use borrow.Author.Rules.{rules}
use Rattle.heading_check.proofs.forerunner_check.target.Goals as goal

pub returns : goal.returns
returns c = (walked_then (stages_in _) _ _ _ c.subtract_all-v.ensures.0 c.solve.ensures.0, search rules)

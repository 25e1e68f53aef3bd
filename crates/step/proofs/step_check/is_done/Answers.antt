-- `step::step_check::is_done`: the target's stage is past the step.
use Rattle.heading_format.specs.Heading.{stage_of}
use Rattle.step.proofs.step_check.Laws.{subtract_named, subtract_done, factor_named, factor_done, solve_named, solve_done}
use borrow.Author.Rules.{rules}
use Rattle.step.proofs.step_check.is_done.Goals as goal

pub stage-requires : goal.stage-requires
stage-requires c = let n = subtract_named c.in-S.is c.requires in search rules

pub stage-requires-in-C : goal.stage-requires-in-C
stage-requires-in-C c = let n = factor_named c.in-C.is c.requires in search rules

pub stage-requires-in-T : goal.stage-requires-in-T
stage-requires-in-T c = let n = solve_named c.in-T.is c.requires in search rules

pub returns-in-S : goal.returns-in-S
returns-in-S c = subtract_done c.in-S.is (stage_of c.args.progress) c.stage.ensures

pub returns-in-C : goal.returns-in-C
returns-in-C c = factor_done c.in-C.is (stage_of c.args.progress) c.stage-in-C.ensures

pub returns-in-T : goal.returns-in-T
returns-in-T c = solve_done c.in-T.is (stage_of c.args.progress) c.stage-in-T.ensures

-- `step::step_check::forerunners_done`: the stages of the blocks that the step comes after.
use Rattle.heading_format.specs.Heading.{stage_of}
use Rattle.step.proofs.step_check.Laws.{subtract_named, subtract_forerun, factor_named, factor_forerun, solve_named, solve_forerun}
use borrow.Author.Rules.{rules}
use Rattle.step.proofs.step_check.forerunners_done.Goals as goal

pub stage-s-requires : goal.stage-s-requires
stage-s-requires c = let n = subtract_named c.in-S.is c.requires in search rules

pub stage-a-requires : goal.stage-a-requires
stage-a-requires c = let n = subtract_named c.in-S.is c.requires in
    search rules

pub stage-b-requires : goal.stage-b-requires
stage-b-requires c = let n = subtract_named c.in-S.is c.requires in search rules

pub stage-requires : goal.stage-requires
stage-requires c = let n = factor_named c.in-C.is c.requires in search rules

pub stage-d-requires : goal.stage-d-requires
stage-d-requires c = let n = solve_named c.in-T.is c.requires in search rules

pub stage-s-requires-in-T : goal.stage-s-requires-in-T
stage-s-requires-in-T c = let n = solve_named c.in-T.is c.requires in
    search rules

pub returns-in-S : goal.returns-in-S
returns-in-S c = subtract_forerun c.in-S.is (stage_of c.args.progress) c.stage-s.ensures c.stage-a.ensures c.stage-b.ensures

pub returns-in-C : goal.returns-in-C
returns-in-C c = factor_forerun c.in-C.is (stage_of c.args.progress) c.stage.ensures

pub returns-in-T : goal.returns-in-T
returns-in-T c = solve_forerun c.in-T.is (stage_of c.args.progress) c.stage-s-in-T.ensures c.stage-d.ensures

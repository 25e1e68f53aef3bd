-- `step::step_check::check_name`: test by test.
use Rattle.update.specs.Names.{step_of_name}
use Rattle.step.proofs.step_check.Faults.{named_eight, fault_unnamed, fault_done, fault_none, fault_forerun}
use Rattle.step.proofs.step_check.check_name.Goals as goal

pub returns-then-not-is_step : goal.returns-then-not-is_step
returns-then-not-is_step c = let a = c.args in
    fault_unnamed a.k a.progress (step_of_name a.name) c.is_step.ensures c.if-not-is_step.true

pub is_done-requires : goal.is_done-requires
is_done-requires c = let a = c.args in
    named_eight a.k (step_of_name a.name) c.requires c.is_step.ensures c.if-not-is_step.false

pub returns-then-is_done : goal.returns-then-is_done
returns-then-is_done c = let a = c.args in
    fault_done a.k a.progress (step_of_name a.name) c.is_step.ensures c.if-not-is_step.false c.is_done.ensures c.if-is_done.true

pub forerunners_done-requires : goal.forerunners_done-requires
forerunners_done-requires c = let a = c.args in
    named_eight a.k (step_of_name a.name) c.requires c.is_step.ensures c.if-not-is_step.false

pub returns-then-not-forerunners_done : goal.returns-then-not-forerunners_done
returns-then-not-forerunners_done c = let a = c.args in
    fault_forerun a.k a.progress (step_of_name a.name) c.is_step.ensures c.if-not-is_step.false c.is_done.ensures c.if-is_done.false c.forerunners_done.ensures c.if-not-forerunners_done.true

pub returns : goal.returns
returns c = let a = c.args in
    fault_none a.k a.progress (step_of_name a.name) c.is_step.ensures c.if-not-is_step.false c.is_done.ensures c.if-is_done.false c.forerunners_done.ensures c.if-not-forerunners_done.false

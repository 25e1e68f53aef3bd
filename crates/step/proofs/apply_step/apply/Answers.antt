-- `step::apply_step::apply`: by the step's name.
use mathlib.Core.Path.{subst}
use Rattle.step_order.specs.Steps.{IsStep}
use Rattle.update.specs.declared.StepName.{StepName}
use Rattle.update.specs.Names.{step_of_name}
use Rattle.step.proofs.step_result.Laws.{by_name}
use Rattle.step.proofs.apply_step.apply.Goals as goal

pub apply_subtract-requires : goal.apply_subtract-requires
apply_subtract-requires c = let a = c.args in
    (c.requires.0, subst (λ (x : StepName). IsStep a.layout.k (step_of_name x)) c.in-S.is c.requires.2, c.requires.3)

pub apply_factor-requires : goal.apply_factor-requires
apply_factor-requires c = let a = c.args in
    (c.requires.0, subst (λ (x : StepName). IsStep a.layout.k (step_of_name x)) c.in-C.is c.requires.2, c.requires.3)

pub apply_solve-requires : goal.apply_solve-requires
apply_solve-requires c = let a = c.args in
    (c.requires.0, subst (λ (x : StepName). IsStep a.layout.k (step_of_name x)) c.in-T.is c.requires.2, c.requires.3)

pub returns-in-S : goal.returns-in-S
returns-in-S c = let a = c.args in
    by_name a.layout a.progress a.heading.now a.doubles.now c.in-S.is c.apply_subtract.ensures

pub returns-in-C : goal.returns-in-C
returns-in-C c = let a = c.args in
    by_name a.layout a.progress a.heading.now a.doubles.now c.in-C.is c.apply_factor.ensures

pub returns-in-T : goal.returns-in-T
returns-in-T c = let a = c.args in
    by_name a.layout a.progress a.heading.now a.doubles.now c.in-T.is c.apply_solve.ensures

-- `step::step_valid`: a refusal by the name, or the step.
use Prim.Native.Nat.{◌≤◌}
use mathlib.Core.Path.{sym, subst, ap, ◌∙◌}
use Rattle.std.specs.Prelude.{Result, Err}
use Rattle.refusal.specs.declared.Refusal.{Refusal}
use Rattle.workspace.specs.Answers.{workspace}
use Rattle.std.proofs.lemmas.Result.{err_from_is_err_and}
use Rattle.layout.specs.declared.Layout.{Layout}
use Rattle.heading_format.proofs.Fits.{fits}
use Rattle.update.specs.Names.{step_of_name}
use Rattle.step.proofs.Turns.{few_blocks, fault_now, is_ready, accepted_step, name_refused}
use Rattle.step.proofs.step_valid.Goals as goal

pub layout-layout-requires : goal.layout-layout-requires
layout-layout-requires c = (fits c.args.heading.now _ c.requires).long

pub progress-progress-requires : goal.progress-progress-requires
progress-progress-requires c = (fits c.args.heading.now _ c.requires).long

pub check-requires : goal.check-requires
check-requires c = let a = c.args in
    subst (λ (z : Layout). z.k ≤ 8) (sym c.layout-layout.ensures) (few_blocks a.heading.now a.doubles.now (step_of_name a.name) c.requires)

pub apply_ready-requires : goal.apply_ready-requires
apply_ready-requires c = let a = c.args in
    is_ready a.heading.now a.doubles.now (step_of_name a.name) c.requires (fault_now a.heading.now (step_of_name a.name) _ _ c.layout-layout.ensures c.progress-progress.ensures c.in_ok-check.ensures)

pub returns-in_err-check : goal.returns-in_err-check
returns-in_err-check c =
    let a = c.args in
    let p = err_from_is_err_and c.from_residual.result c.from_residual.ensures.1 in
    ap (λ (r : Result Unit Refusal). record { answer = r; left = workspace a.heading.now a.doubles.now }) (p.1 ∙ ap Err p.2)
    ∙ name_refused a.heading.now a.doubles.now (step_of_name a.name) c.requires _ (fault_now a.heading.now (step_of_name a.name) _ _ c.layout-layout.ensures c.progress-progress.ensures c.in_err-check.ensures)

pub returns : goal.returns
returns c = let a = c.args in
    accepted_step a.heading.now a.doubles.now (step_of_name a.name) c.requires (fault_now a.heading.now (step_of_name a.name) _ _ c.layout-layout.ensures c.progress-progress.ensures c.in_ok-check.ensures) _ c.apply_ready.ensures

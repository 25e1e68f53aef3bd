use mathlib.Core.Path.{refl, sym, ap, ◌∙◌}
use mathlib.Core.List.{[], ◌∷◌}
use native.Mathlib.Omega.{arith}
use Rattle.std.specs.Prelude.{Err}
use Rattle.std.proofs.lemmas.Result.{err_from_is_err_and}
use Rattle.profile_deviance.specs.ready_step.ReadyInTurn.{is_refused}
use Rattle.step_order.specs.Steps.{S}
use Rattle.workspace.specs.Answers.{workspace}
use Rattle.profile_deviance.proofs.ready_step.Runs.{outcome, going_start, going_turn, going_more, going_refused, going_done, handed_on}
use borrow.Author.Rules.{rules}
use Rattle.profile_deviance.proofs.rust_order.subtract_all.Goals as goal

pub loop-x-init : goal.loop-x-init
loop-x-init c = (going_start (workspace c.args.heading.now c.args.doubles.now) (λ z. S c.args.i c.args.j z ∷ []) 0 c.args.j c.requires.1 refl (omega arith), refl, refl)

pub apply-requires : goal.apply-requires
apply-requires c = going_turn c.loop-x.invariant.0 (search rules)

pub returns-in_err-apply : goal.returns-in_err-apply
returns-in_err-apply c =
    let p = err_from_is_err_and c.from_residual.result c.from_residual.ensures.1 in
    handed_on (going_refused c.loop-x.invariant.0 (search rules) (outcome c.apply.result (workspace c.apply.new.heading c.apply.new.doubles)) c.apply.ensures (ap is_refused c.in_err-apply.was)) (p.1 ∙ ap Err p.2 ∙ sym c.in_err-apply.was)

pub loop-x-preserved : goal.loop-x-preserved
loop-x-preserved c = (going_more c.loop-x.invariant.0 (search rules) (outcome c.apply.result (workspace c.apply.new.heading c.apply.new.doubles)) c.apply.ensures (ap is_refused c.in_ok-apply.was), search rules, search rules)

pub returns : goal.returns
returns c = going_done c.loop-x.invariant.0 (search rules)

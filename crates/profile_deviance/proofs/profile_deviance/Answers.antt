-- `profile_deviance::profile_deviance`: begin's refusal, the refused pivot, or the value, which alone goes on to the tail.
use mathlib.Core.Path.{refl, ap, ◌∙◌}
use Rattle.std.specs.Prelude.{Ok, Err}
use Rattle.std.proofs.lemmas.Result.{err_from_is_err_and}
use Rattle.profile_deviance.proofs.full_update.Ends.{not_value, update_refused, no_value, value_ready, value_done}
use Rattle.profile.proofs.Meaning.{profiled_means}
use borrow.Author.Rules.{rules}
use Rattle.profile_deviance.proofs.profile_deviance.Goals as goal

pub returns-in_err-u : goal.returns-in_err-u
returns-in_err-u c =
    let a = c.args in
    let p = err_from_is_err_and c.from_residual.result c.from_residual.ensures.1 in
    profiled_means _ _ _ (update_refused a.heading.now a.doubles.now a.theta.now a.reml _ _ _ c.update.ensures (p.1 ∙ ap Err p.2) c.in_err-u.was)

pub without_value-requires : goal.without_value-requires
without_value-requires c = not_value _ c.in_default.not-Value

pub returns-in_default : goal.returns-in_default
returns-in_default c = let a = c.args in
    profiled_means _ _ _ (no_value a.heading.now a.doubles.now a.theta.now a.reml _ _ _ c.update.ensures c.in_ok-u.was c.without_value.ensures)

pub layout-requires : goal.layout-requires
layout-requires c = let a = c.args in
    (value_ready a.heading.now a.doubles.now a.theta.now a.reml _ _ _ c.update.ensures _ (c.in_ok-u.was ∙ ap Ok c.in-Value.is) (search rules) (search rules) _ refl).0

pub tail-requires : goal.tail-requires
tail-requires c = let a = c.args in
    (value_ready a.heading.now a.doubles.now a.theta.now a.reml _ _ _ c.update.ensures _ (c.in_ok-u.was ∙ ap Ok c.in-Value.is) (search rules) (search rules) _ c.layout.ensures).1

pub returns : goal.returns
returns c = let a = c.args in
    profiled_means _ _ _ (value_done a.heading.now a.doubles.now a.theta.now a.reml _ _ _ c.update.ensures _ (c.in_ok-u.was ∙ ap Ok c.in-Value.is) _ c.layout.ensures _ c.tail.ensures)

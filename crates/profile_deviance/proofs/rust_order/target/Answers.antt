-- `profile_deviance::rust_order::target`: the subtractions, and the solve behind them.
use mathlib.Core.Path.{sym, ap, ◌∙◌}
use mathlib.Core.List.{[], ◌∷◌}
use Rattle.std.specs.Prelude.{Err}
use Rattle.std.proofs.lemmas.Result.{err_from_is_err_and}
use Rattle.profile_deviance.specs.ready_step.ReadyInTurn.{is_refused}
use Rattle.step_order.specs.Steps.{T, subtractions}
use Rattle.workspace.specs.Answers.{workspace}
use Rattle.profile_deviance.proofs.ready_step.Runs.{ran_stop, ran_more, turn, handed_on}
use Rattle.profile_deviance.proofs.ready_step.Turns.{prefix}
use Rattle.profile_deviance.proofs.rust_order.target.Goals as goal

pub subtract_all-requires : goal.subtract_all-requires
subtract_all-requires c = (c.requires.0, prefix (workspace c.args.heading.now c.args.doubles.now) (subtractions c.args.i c.args.j) (T c.args.i c.args.j ∷ []) c.requires.1)

pub returns-in_err-subtract_all : goal.returns-in_err-subtract_all
returns-in_err-subtract_all c =
    let p = err_from_is_err_and c.from_residual.result c.from_residual.ensures.1 in
    handed_on (ran_stop (T c.args.i c.args.j ∷ []) c.subtract_all.ensures (ap is_refused c.in_err-subtract_all.was)) (p.1 ∙ ap Err p.2 ∙ sym c.in_err-subtract_all.was)

pub apply-requires : goal.apply-requires
apply-requires c = turn (T c.args.i c.args.j ∷ []) c.subtract_all.ensures (ap is_refused c.in_ok-subtract_all.was) c.requires.1

pub returns : goal.returns
returns c = ran_more (T c.args.i c.args.j ∷ []) c.subtract_all.ensures (ap is_refused c.in_ok-subtract_all.was) c.apply.ensures

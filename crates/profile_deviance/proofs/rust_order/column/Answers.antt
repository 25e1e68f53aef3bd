-- `profile_deviance::rust_order::column`: the diagonal target, and those below it.
use Prim.Native.Nat.{suc, ◌-◌}
use mathlib.Core.Path.{sym, ap, ◌∙◌}
use mathlib.Core.List.{[], ◌∷◌, ◌++◌}
use Rattle.std.specs.Prelude.{Err}
use Rattle.std.proofs.lemmas.Result.{err_from_is_err_and}
use Rattle.profile_deviance.specs.ready_step.ReadyInTurn.{is_refused}
use Rattle.step_order.specs.Steps.{C, T, each, subtractions}
use Rattle.workspace.specs.Answers.{workspace}
use Rattle.profile_deviance.proofs.ready_step.Runs.{ran_stop, ran_more, turn, handed_on}
use Rattle.profile_deviance.proofs.ready_step.Turns.{prefix}
use borrow.Author.Rules.{rules}
use Rattle.profile_deviance.proofs.rust_order.column.Goals as goal

pub subtract_all-requires : goal.subtract_all-requires
subtract_all-requires c = (search rules, prefix (workspace c.args.heading.now c.args.doubles.now) (subtractions c.args.j c.args.j) (C c.args.j ∷ []) (prefix (workspace c.args.heading.now c.args.doubles.now) (subtractions c.args.j c.args.j ++ (C c.args.j ∷ [])) (each (λ z. subtractions z c.args.j ++ (T z c.args.j ∷ [])) (suc c.args.j) (c.args.k - c.args.j)) c.requires.2))

pub returns-in_err-subtract_all : goal.returns-in_err-subtract_all
returns-in_err-subtract_all c =
    let p = err_from_is_err_and c.from_residual.result c.from_residual.ensures.1 in
    let t = ap is_refused c.in_err-subtract_all.was in
    handed_on (ran_stop (each (λ z. subtractions z c.args.j ++ (T z c.args.j ∷ [])) (suc c.args.j) (c.args.k - c.args.j)) (ran_stop (C c.args.j ∷ []) c.subtract_all.ensures t) t) (p.1 ∙ ap Err p.2 ∙ sym c.in_err-subtract_all.was)

pub apply-requires : goal.apply-requires
apply-requires c = turn (C c.args.j ∷ []) c.subtract_all.ensures (ap is_refused c.in_ok-subtract_all.was) (prefix (workspace c.args.heading.now c.args.doubles.now) (subtractions c.args.j c.args.j ++ (C c.args.j ∷ [])) (each (λ z. subtractions z c.args.j ++ (T z c.args.j ∷ [])) (suc c.args.j) (c.args.k - c.args.j)) c.requires.2)

pub returns-in_err-apply : goal.returns-in_err-apply
returns-in_err-apply c =
    let p = err_from_is_err_and c.from_residual-in_err-apply.result c.from_residual-in_err-apply.ensures.1 in
    handed_on (ran_stop (each (λ z. subtractions z c.args.j ++ (T z c.args.j ∷ [])) (suc c.args.j) (c.args.k - c.args.j)) (ran_more (C c.args.j ∷ []) c.subtract_all.ensures (ap is_refused c.in_ok-subtract_all.was) c.apply.ensures) (ap is_refused c.in_err-apply.was)) (p.1 ∙ ap Err p.2 ∙ sym c.in_err-apply.was)

pub below-requires : goal.below-requires
below-requires c = (c.requires.0, c.requires.1, turn (each (λ z. subtractions z c.args.j ++ (T z c.args.j ∷ [])) (suc c.args.j) (c.args.k - c.args.j)) (ran_more (C c.args.j ∷ []) c.subtract_all.ensures (ap is_refused c.in_ok-subtract_all.was) c.apply.ensures) (ap is_refused c.in_ok-apply.was) c.requires.2)

pub returns : goal.returns
returns c = ran_more (each (λ z. subtractions z c.args.j ++ (T z c.args.j ∷ [])) (suc c.args.j) (c.args.k - c.args.j)) (ran_more (C c.args.j ∷ []) c.subtract_all.ensures (ap is_refused c.in_ok-subtract_all.was) c.apply.ensures) (ap is_refused c.in_ok-apply.was) c.below.ensures

use Prim.Native.Nat.{suc, ◌-◌}
use mathlib.Core.Path.{refl, sym, ap, ◌∙◌}
use mathlib.Core.List.{[], ◌∷◌, ◌++◌}
use Rattle.std.specs.Prelude.{Err}
use Rattle.std.proofs.lemmas.Result.{err_from_is_err_and}
use Rattle.profile_deviance.specs.ready_step.ReadyInTurn.{is_refused}
use Rattle.step_order.specs.Steps.{T, subtractions}
use Rattle.workspace.specs.Answers.{workspace}
use Rattle.profile_deviance.proofs.ready_step.Runs.{outcome, going_start, going_turn, going_more, going_refused, going_done, handed_on}
use borrow.Author.Rules.{rules}
use Rattle.profile_deviance.proofs.rust_order.below.Goals as goal

pub loop-i-init : goal.loop-i-init
loop-i-init c = (going_start (workspace c.args.heading.now c.args.doubles.now) (λ z. subtractions z c.args.j ++ (T z c.args.j ∷ [])) (suc c.args.j) (c.args.k - c.args.j) c.requires.2 (search rules) (search rules), refl, refl)

pub target-requires : goal.target-requires
target-requires c = (search rules, going_turn c.loop-i.invariant.0 (search rules))

pub returns-in_err-target : goal.returns-in_err-target
returns-in_err-target c =
    let p = err_from_is_err_and c.from_residual.result c.from_residual.ensures.1 in
    handed_on (going_refused c.loop-i.invariant.0 (search rules) (outcome c.target.result (workspace c.target.new.heading c.target.new.doubles)) c.target.ensures (ap is_refused c.in_err-target.was)) (p.1 ∙ ap Err p.2 ∙ sym c.in_err-target.was)

pub loop-i-preserved : goal.loop-i-preserved
loop-i-preserved c = (going_more c.loop-i.invariant.0 (search rules) (outcome c.target.result (workspace c.target.new.heading c.target.new.doubles)) c.target.ensures (ap is_refused c.in_ok-target.was), search rules, search rules)

pub returns : goal.returns
returns c = going_done c.loop-i.invariant.0 (search rules)

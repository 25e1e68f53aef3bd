use Prim.Native.Nat.{suc}
use mathlib.Core.Path.{refl, sym, ap, ◌∙◌}
use native.Mathlib.Omega.{arith}
use Rattle.std.specs.Prelude.{Err}
use Rattle.std.proofs.lemmas.Result.{err_from_is_err_and}
use Rattle.profile_deviance.specs.ready_step.ReadyInTurn.{is_refused}
use Rattle.step_order.specs.Steps.{column_steps, rust_order}
use Rattle.workspace.specs.Answers.{workspace}
use Rattle.profile_deviance.proofs.ready_step.Runs.{outcome, going_start, going_turn, going_more, going_refused, going_done, handed_on}
use borrow.Author.Rules.{rules}
use Rattle.profile_deviance.proofs.rust_order.run.Goals as goal

pub loop-j-init : goal.loop-j-init
unfolding rust_order
loop-j-init c = (going_start (workspace c.args.heading.now c.args.doubles.now) (column_steps c.args.k) 0 (suc c.args.k) c.requires.1 refl (omega arith), refl, refl)

pub column-requires : goal.column-requires
column-requires c = (search rules, search rules, going_turn c.loop-j.invariant.0 (search rules))

pub returns-in_err-column : goal.returns-in_err-column
unfolding rust_order
returns-in_err-column c =
    let p = err_from_is_err_and c.from_residual.result c.from_residual.ensures.1 in
    handed_on (going_refused c.loop-j.invariant.0 (search rules) (outcome c.column.result (workspace c.column.new.heading c.column.new.doubles)) c.column.ensures (ap is_refused c.in_err-column.was)) (p.1 ∙ ap Err p.2 ∙ sym c.in_err-column.was)

pub loop-j-preserved : goal.loop-j-preserved
loop-j-preserved c = (going_more c.loop-j.invariant.0 (search rules) (outcome c.column.result (workspace c.column.new.heading c.column.new.doubles)) c.column.ensures (ap is_refused c.in_ok-column.was), search rules, search rules)

pub returns : goal.returns
unfolding rust_order
returns c = going_done c.loop-j.invariant.0 (search rules)

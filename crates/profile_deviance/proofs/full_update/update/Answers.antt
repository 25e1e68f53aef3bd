-- `profile_deviance::full_update::update`: the Rust's order behind begin, or its refusal.
use mathlib.Core.Path.{sym, ap, ◌∙◌}
use Rattle.std.specs.Prelude.{Err}
use Rattle.std.proofs.lemmas.Result.{err_from_is_err_and}
use Rattle.workspace.proofs.Meaning.{meant_outcome}
use Rattle.profile_deviance.proofs.full_update.Ends.{begun_ready, begin_done, begin_refused}
use borrow.Author.Rules.{rules}
use Rattle.profile_deviance.proofs.full_update.update.Goals as goal

pub returns-in_err-begin : goal.returns-in_err-begin
returns-in_err-begin c =
    let a = c.args in
    let p = err_from_is_err_and c.from_residual.result c.from_residual.ensures.1 in
    begin_refused a.heading.now a.doubles.now a.theta.now _ _ _ (meant_outcome _ _ _ c.begin.ensures) (p.1 ∙ ap Err p.2) c.in_err-begin.was

pub factor-requires : goal.factor-requires
factor-requires c = let a = c.args in
    begun_ready a.heading.now a.doubles.now a.theta.now _ _ _ (meant_outcome _ _ _ c.begin.ensures) c.in_ok-begin.was (search rules) (search rules)

pub returns : goal.returns
returns c = let a = c.args in
    begin_done a.heading.now a.doubles.now a.theta.now _ _ _ (meant_outcome _ _ _ c.begin.ensures) c.in_ok-begin.was c.factor.ensures

-- `solve_profile::solve_profile_blocked`: 20, 25, 13, or the solution.
use mathlib.Core.Path.{ap, ◌∙◌}
use Rattle.std.specs.Prelude.{Err}
use Rattle.std.proofs.lemmas.Result.{err_from_is_err_and}
use Rattle.profile.specs.Finish.{solve_meaning}
use Rattle.solve_profile.proofs.Call.{unfinished, layout_valid, workspace_fits, other_length, finishes}
use Rattle.solve_profile.proofs.solve_profile_blocked.Goals as goal

-- what the layout of a finished factor is refused with, 20 or 25, is handed on;
-- 13 comes behind it
pub returns-in_err-layout : goal.returns-in_err-layout
returns-in_err-layout c =
    let a = c.args in
    let p = err_from_is_err_and c.from_residual.result c.from_residual.ensures.1 in
    let u = unfinished a.heading.now a.doubles.now a.reml a.out.now (p.1 ∙ ap Err p.2) c.in_err-layout.ensures in (ap solve_meaning u.0, u.1)

pub result_length-requires : goal.result_length-requires
result_length-requires c = layout_valid c.args.heading.now c.args.doubles.now c.args.reml c.args.out.now c.in_ok-layout.ensures

pub returns-then-out-result_length : goal.returns-then-out-result_length
returns-then-out-result_length c =
    let a = c.args in
    let u = other_length a.heading.now a.doubles.now a.reml a.out.now c.in_ok-layout.ensures _ c.result_length.ensures c.if-out-result_length.true in (ap solve_meaning u.0, u.1)

pub invariant_of-lent : goal.invariant_of-lent
invariant_of-lent c = let a = c.args in record { fits = workspace_fits a.heading.now a.doubles.now a.reml a.out.now c.in_ok-layout.ensures }

pub of_factor-requires : goal.of_factor-requires
of_factor-requires c = c.if-out-result_length.false ∙ c.result_length.ensures

pub returns : goal.returns
returns c =
    let a = c.args in
    let u = finishes a.heading.now a.doubles.now a.reml a.out.now c.in_ok-layout.ensures _ c.result_length.ensures c.if-out-result_length.false _ _ c.of_factor.ensures in (ap solve_meaning u.0, u.1)

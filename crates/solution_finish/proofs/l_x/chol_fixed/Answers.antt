-- `solution_finish::l_x::chol_fixed`: C, then the scan.
use mathlib.Core.Path.{sym, ap, ◌∙◌}
use native.Mathlib.Omega.{arith}
use Rattle.std.specs.Prelude.{Err}
use Rattle.re_lower.specs.Lower.{Pivots}
use Rattle.std.proofs.lemmas.Result.{err_from_is_err_and}
use Rattle.solution_finish.proofs.l_x.Finish.{or_else, accepted, refused, refused_room}
use Rattle.solution_finish.proofs.l_x.chol_fixed.Goals as goal

pub first_not_above-requires-in-Err : goal.first_not_above-requires-in-Err
first_not_above-requires-in-Err c = refused_room c.args.off c.args.n c.args.v.now _ c.requires.1 c.requires.2 _ _ c.chol.ensures c.in-Err.is (omega arith)

pub returns-in-Ok : goal.returns-in-Ok
returns-in-Ok c = accepted c.args.off c.args.n c.args.v.now _ c.requires.1 c.requires.2 _ c.chol.ensures c.in-Ok.is _ c.first_not_above.ensures

pub returns-in_err-first_not_above-in-Err : goal.returns-in_err-first_not_above-in-Err
returns-in_err-first_not_above-in-Err c =
    let p = err_from_is_err_and c.from_residual.result c.from_residual.ensures.1 in
    refused c.args.off c.args.n c.args.v.now _ c.requires.1 c.requires.2 _ _ c.chol.ensures c.in-Err.is _ _ c.first_not_above-in-Err.ensures
    (p.1 ∙ ap Err p.2 ∙ sym (ap (λ (z : Pivots). or_else z c.in-Err.refused) c.in_err-first_not_above-in-Err.was))

pub returns-in_ok-first_not_above-in-Err : goal.returns-in_ok-first_not_above-in-Err
returns-in_ok-first_not_above-in-Err c =
    refused c.args.off c.args.n c.args.v.now _ c.requires.1 c.requires.2 _ _ c.chol.ensures c.in-Err.is _ _ c.first_not_above-in-Err.ensures
    (sym (ap (λ (z : Pivots). or_else z c.in-Err.refused) c.in_ok-first_not_above-in-Err.was))

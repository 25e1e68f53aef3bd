-- `views::log_determinant`: 20, 25, or the value.
use lib.ListN.{length}
use mathlib.Core.Path.{ap, ◌∙◌}
use Rattle.std.specs.Prelude.{Ok, Err}
use Rattle.std.proofs.lemmas.Result.{err_from_is_err_and}
use Rattle.profile.specs.Deviance.{log_determinant}
use Rattle.deviance.proofs.Finished.{room_of_finished}
use Rattle.views.specs.Views.{value_meaning}
use Rattle.views.proofs.Looks.{refused_view, determinant}
use Rattle.views.proofs.log_determinant.Goals as goal

pub returns-in_err-layout : goal.returns-in_err-layout
returns-in_err-layout c =
    let a = c.args in
    let p = err_from_is_err_and c.from_residual.result c.from_residual.ensures.1 in
    ap value_meaning (p.1 ∙ ap Err p.2 ∙ refused_view a.heading.now a.doubles.now (Ok (log_determinant a.heading.now a.doubles.now)) c.in_err-layout.ensures)

pub log_determinant-requires : goal.log_determinant-requires
log_determinant-requires c = room_of_finished c.args.heading.now (length c.args.doubles.now) c.in_ok-layout.ensures

pub returns : goal.returns
returns c = ap value_meaning (determinant c.args.heading.now c.args.doubles.now c.in_ok-layout.ensures c.log_determinant.ensures)

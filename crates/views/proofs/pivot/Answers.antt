-- `views::pivot`: 20, 25, or the pivot that there is.
use lib.ListN.{length}
use mathlib.Core.Path.{ap, ◌∙◌}
use Rattle.std.specs.Prelude.{Err}
use Rattle.std.proofs.lemmas.Result.{err_from_is_err_and}
use Rattle.deviance.proofs.Finished.{room_of_finished}
use Rattle.views.specs.Views.{view_meaning}
use Rattle.views.proofs.Looks.{refused_view, pivot_same}
use Rattle.views.proofs.pivot.Goals as goal

pub returns-in_err-layout : goal.returns-in_err-layout
returns-in_err-layout c =
    let a = c.args in
    let p = err_from_is_err_and c.from_residual.result c.from_residual.ensures.1 in
    ap view_meaning (p.1 ∙ ap Err p.2 ∙ refused_view a.heading.now a.doubles.now _ c.in_err-layout.ensures)

pub pivot_of_layout-requires : goal.pivot_of_layout-requires
pivot_of_layout-requires c = room_of_finished c.args.heading.now (length c.args.doubles.now) c.in_ok-layout.ensures

pub returns : goal.returns
returns c = ap view_meaning (pivot_same c.args.heading.now c.args.doubles.now c.in_ok-layout.ensures c.args.block c.args.row c.pivot_of_layout.ensures)

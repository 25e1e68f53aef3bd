-- `deviance::deviance_from_factor`: 20, 25, or the deviance of a finished factor.
use mathlib.Core.Path.{ap, ◌∙◌}
use Rattle.std.specs.Prelude.{Ok, Err}
use Rattle.std.proofs.lemmas.Result.{err_from_is_err_and}
use lib.ListN.{length}
use Rattle.profile.specs.Deviance.{deviance_meaning, deviance_value, deviance_from_factor}
use Rattle.heading_format.specs.Heading.{layout_of}
use Rattle.deviance.proofs.Finished.{refused, room_of_finished}
use Rattle.deviance.proofs.deviance_tail.Tails.{deviance_is}
use Rattle.deviance.proofs.deviance_from_factor.Goals as goal

pub returns-in_err-layout : goal.returns-in_err-layout
unfolding deviance_from_factor
returns-in_err-layout c =
    let a = c.args in
    let p = err_from_is_err_and c.from_residual.result c.from_residual.ensures.1 in
    ap deviance_meaning (p.1 ∙ ap Err p.2 ∙ refused a.heading.now (length a.doubles.now) (layout_of a.heading.now) (Ok (deviance_value a.heading.now a.doubles.now a.reml)) c.in_err-layout.ensures)

pub log_determinant-logdet-requires : goal.log_determinant-logdet-requires
log_determinant-logdet-requires c = room_of_finished c.args.heading.now (length c.args.doubles.now) c.in_ok-layout.ensures

pub tail-requires : goal.tail-requires
tail-requires c = room_of_finished c.args.heading.now (length c.args.doubles.now) c.in_ok-layout.ensures

pub returns : goal.returns
returns c = ap deviance_meaning (deviance_is c.args.heading.now c.args.doubles.now c.args.reml c.in_ok-layout.ensures c.log_determinant-logdet.ensures c.tail.ensures)

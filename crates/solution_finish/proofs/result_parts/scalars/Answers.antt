-- `solution_finish::result_parts::scalars`: the division, and the value with it.
use native.Mathlib.Omega.{arith}
use Rattle.solution_finish.proofs.result_parts.Made.{beta_ready, scaled}
use Rattle.heading_format.proofs.Fits.{room_of_lem}
use Rattle.solution_finish.proofs.result_parts.scalars.Goals as goal

pub freedom-d-requires : goal.freedom-d-requires
freedom-d-requires c = c.args.lent.fits.valid

pub log_determinant-logdet-requires : goal.log_determinant-logdet-requires
log_determinant-logdet-requires c = room_of_lem c.args.lent.fits

pub l_x_at-requires : goal.l_x_at-requires
l_x_at-requires c = c.args.lent.fits.valid

pub value-deviance-requires : goal.value-deviance-requires
value-deviance-requires c = let k = beta_ready c.args.lent.layout c.args.lent.fits.valid c.args.v.now c.requires.long _ c.l_x_at.ensures in (omega (arith, k.0), k.2)

pub returns : goal.returns
returns c = scaled c.args.lent.heading.now c.args.lent.doubles.now c.args.reml c.args.r2 c.args.lent.layout c.args.lent.fits.same c.args.v.now c.requires.v_value _ _ _ c.freedom-d.ensures c.log_determinant-logdet.ensures c.l_x_at.ensures _ c.value-deviance.ensures

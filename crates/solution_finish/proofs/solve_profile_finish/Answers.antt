-- `solution_finish::solve_profile_finish`: X'X less V'W, its factor, and the two ways out.
use native.Mathlib.Omega.{arith}
use Rattle.solution_vectors.specs.result_places.Places.{result_length_of}
use Rattle.solution_finish.proofs.Finish.{chol_ready, accept_ready, none_refused, outcome_solved, finish_refused}
use Rattle.solution_finish.proofs.solve_profile_finish.Goals as goal

pub l_x_at-factor-requires : goal.l_x_at-factor-requires
l_x_at-factor-requires c = c.args.lent.fits.valid

pub chol_fixed-requires : goal.chol_fixed-requires
chol_fixed-requires c = chol_ready c.args.lent.heading.now c.args.lent.doubles.now c.args.lent.layout c.args.lent.fits.same _ (omega (arith, c.requires.long)) _ c.subtract_products-rest.ensures _ c.l_x_at-factor.ensures c.args.lent.fits.valid

pub accept-requires : goal.accept-requires
accept-requires c = record { ready = (accept_ready c.args.lent.heading.now c.args.lent.doubles.now c.args.lent.layout c.args.lent.fits.same _ (omega (arith, c.requires.long)) _ c.subtract_products-rest.ensures _ c.l_x_at-factor.ensures _ _ c.chol_fixed.ensures c.in-Ok.is); rest_value = c.subtract_products-rest.ensures.rest }

pub returns-in-Ok : goal.returns-in-Ok
returns-in-Ok c = outcome_solved c.args.lent.heading.now c.args.lent.doubles.now c.args.reml (result_length_of c.args.lent.layout) (none_refused c.args.lent.heading.now c.args.lent.doubles.now c.args.lent.layout c.args.lent.fits.same _ (omega (arith, c.requires.long)) _ c.subtract_products-rest.ensures _ c.l_x_at-factor.ensures _ _ c.chol_fixed.ensures c.in-Ok.is) _ _ c.accept.ensures.0 c.accept.ensures.1

pub returns-in-Err : goal.returns-in-Err
returns-in-Err c = finish_refused c.args.lent.heading.now c.args.lent.doubles.now c.args.lent.layout c.args.lent.fits.same _ (omega (arith, c.requires.long)) _ c.subtract_products-rest.ensures _ c.l_x_at-factor.ensures _ _ c.chol_fixed.ensures _ c.in-Err.is c.args.reml (result_length_of c.args.lent.layout) (omega (arith, c.requires.long)) _ _ c.refuse.ensures.0 c.refuse.ensures.1

-- `solution_finish::result_parts::make_parts`: beta, u and b.
use native.Mathlib.Omega.{arith}
use Rattle.solution_finish.proofs.result_parts.Made.{beta_ready, u_ready, finished}
use Rattle.solution_finish.proofs.result_parts.make_parts.Goals as goal

pub l_x_at-factor-requires : goal.l_x_at-factor-requires
l_x_at-factor-requires c = c.args.lent.fits.valid

pub w_at-response-requires : goal.w_at-response-requires
w_at-response-requires c = (c.args.lent.fits.valid, omega arith)

pub solve_beta-r-requires : goal.solve_beta-r-requires
solve_beta-r-requires c = beta_ready c.args.lent.layout c.args.lent.fits.valid c.args.v.now c.requires.long _ c.l_x_at-factor.ensures

pub overflow_add-response : goal.overflow_add-response
overflow_add-response c = let k = u_ready c.args.lent.heading.now c.args.lent.doubles.now c.args.lent.layout c.args.v.now _ _ _ c.l_x_at-factor.ensures c.w_at-response.ensures c.args.lent.fits.same c.requires _ c.solve_beta-r.ensures in omega (arith, k.3)

pub write_u-requires : goal.write_u-requires
write_u-requires c = u_ready c.args.lent.heading.now c.args.lent.doubles.now c.args.lent.layout c.args.v.now _ _ _ c.l_x_at-factor.ensures c.w_at-response.ensures c.args.lent.fits.same c.requires _ c.solve_beta-r.ensures

pub returns : goal.returns
returns c = finished c.args.lent.heading.now c.args.lent.doubles.now c.args.lent.layout c.args.v.now _ _ _ c.l_x_at-factor.ensures c.w_at-response.ensures c.args.lent.fits.same c.args.lent.fits.valid c.requires _ c.solve_beta-r.ensures _ _ c.write_u.ensures c.write_b.ensures

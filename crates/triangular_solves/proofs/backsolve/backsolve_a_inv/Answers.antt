-- `triangular_solves::backsolve::backsolve_a_inv`: forward, then backward.
use Rattle.solution_vectors.proofs.solve_laws.Solves.{backsolved}
use Rattle.triangular_solves.proofs.backsolve.backsolve_a_inv.Goals as goal

pub returns : goal.returns
returns c = backsolved _ _ c.args.lent.layout c.args.lent.fits.same c.args.lent.fits.valid c.args.from _ _ _ c.requires c.forward_solve_ld.ensures c.backward_solve_ld.ensures

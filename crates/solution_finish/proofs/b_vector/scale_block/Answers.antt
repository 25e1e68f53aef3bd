-- `solution_finish::b_vector::scale_block`: one run of u, times theta.
use mathlib.Core.Path.{refl}
use native.Mathlib.Omega.{arith}
use Rattle.solution_finish.proofs.b_vector.Scaled.{block_fits, block_apart, block_scaled}
use Rattle.solution_finish.proofs.b_vector.scale_block.Goals as goal

pub first_row-requires : goal.first_row-requires
first_row-requires c = (c.args.lent.fits.valid, c.requires.0)

pub overflow_add-to : goal.overflow_add-to
overflow_add-to c = omega (arith, block_fits c.args.lent.layout c.args.lent.fits.valid c.args.j _ _ _ c.requires.0 c.first_row.ensures (refl) c.requires.1)

pub overflow_add-from : goal.overflow_add-from
overflow_add-from c = omega (arith, block_fits c.args.lent.layout c.args.lent.fits.valid c.args.j _ _ _ c.requires.0 c.first_row.ensures (refl) c.requires.1)

pub rows_of-n-requires : goal.rows_of-n-requires
rows_of-n-requires c = (c.args.lent.fits.valid, omega (arith, c.requires.0))

pub scale_once-requires : goal.scale_once-requires
scale_once-requires c = let f = c.first_row.ensures in let n = c.rows_of-n.ensures in
    record { n_in_bounds = block_fits c.args.lent.layout c.args.lent.fits.valid c.args.j _ _ _ c.requires.0 (f) (n) c.requires.1; apart = block_apart c.args.lent.layout c.args.lent.fits.valid c.args.j _ _ _ c.requires.0 f n c.requires.1 }

pub returns : goal.returns
returns c = block_scaled c.args.lent.layout c.args.lent.fits.valid c.args.lent.heading.now c.args.lent.doubles.now _ _ c.args.j _ _ _ c.requires.0 c.theta_of-theta.ensures
    c.first_row.ensures c.rows_of-n.ensures c.scale_once.ensures

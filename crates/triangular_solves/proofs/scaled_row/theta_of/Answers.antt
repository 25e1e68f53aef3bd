-- `triangular_solves::scaled_row::theta_of`: theta at the block's sheet index.
use mathlib.Core.Path.{refl}
use native.Mathlib.Omega.{arith}
use Rattle.block_places.proofs.block_sizes.Sizes.{few_blocks}
use Rattle.triangular_solves.proofs.scaled_row.Scaled.{theta_room, theta_read}
use Rattle.triangular_solves.proofs.scaled_row.theta_of.Goals as goal

pub offset_bounds-lent-t : goal.offset_bounds-lent-t
offset_bounds-lent-t c = omega (arith, few_blocks c.args.lent.layout c.args.lent.fits.valid)

pub bounds-lent-t : goal.bounds-lent-t
bounds-lent-t c = omega (arith, few_blocks c.args.lent.layout c.args.lent.fits.valid)

pub theta_at-requires : goal.theta_at-requires
theta_at-requires c = c.args.lent.fits.valid

pub overflow_add-result : goal.overflow_add-result
overflow_add-result c = omega (arith, theta_room c.args.lent.heading.now c.args.lent.doubles.now c.args.lent.layout c.args.lent.fits c.args.j c.requires _ _ c.theta_at.ensures refl)

pub offset_bounds-lent-theta_at : goal.offset_bounds-lent-theta_at
offset_bounds-lent-theta_at c = omega (arith, theta_room c.args.lent.heading.now c.args.lent.doubles.now c.args.lent.layout c.args.lent.fits c.args.j c.requires _ _ c.theta_at.ensures refl)

pub bounds-lent-theta_at : goal.bounds-lent-theta_at
bounds-lent-theta_at c = omega (arith, theta_room c.args.lent.heading.now c.args.lent.doubles.now c.args.lent.layout c.args.lent.fits c.args.j c.requires _ _ c.theta_at.ensures refl)

pub returns : goal.returns
returns c = theta_read c.args.lent.heading.now c.args.lent.doubles.now c.args.lent.layout c.args.lent.fits c.args.j c.requires _ _ c.theta_at.ensures refl

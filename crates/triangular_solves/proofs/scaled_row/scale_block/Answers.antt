-- `triangular_solves::scaled_row::scale_block`: row r of the block's loaded fixed rows.
use mathlib.Core.Path.{refl}
use native.Mathlib.Omega.{arith}
use Rattle.block_places.proofs.block_kinds.Shapes.{rows_last}
use Rattle.triangular_solves.proofs.scaled_row.Scaled.{rows_room, fixed_lies, block_scaled}
use Rattle.triangular_solves.proofs.scaled_row.scale_block.Goals as goal

pub block_start-to-requires : goal.block_start-to-requires
block_start-to-requires c = (c.args.lent.fits.valid, c.requires.1, c.requires.2)

pub loaded_at-requires : goal.loaded_at-requires
loaded_at-requires c = (c.args.lent.fits.valid, omega (arith, c.requires.1), omega arith)

pub rows_of-requires : goal.rows_of-requires
rows_of-requires c = (c.args.lent.fits.valid, omega arith)

pub rows_of-requires-2 : goal.rows_of-requires-2
rows_of-requires-2 c = (c.args.lent.fits.valid, omega (arith, c.requires.1))

pub scale_cells-requires : goal.scale_cells-requires
scale_cells-requires c = rw (c.block_start-to.ensures, c.loaded_at.ensures, c.rows_of.ensures, c.rows_of-2.ensures) (
  fixed_lies _ c.args.lent.doubles.now _ c.args.lent.fits _ c.requires.1,
  omega (arith, rows_last c.args.lent.layout c.args.lent.layout.k refl, c.requires.0),
  rows_room _ c.args.lent.doubles.now _ c.args.lent.fits _ c.requires.1 _ _ c.requires.2,
)

pub returns : goal.returns
returns c = block_scaled _ c.args.lent.doubles.now _ c.args.lent.fits _ c.requires.1 c.args.r c.args.from c.args.v.now
    (rw (c.theta_of-theta.ensures, c.block_start-to.ensures, c.loaded_at.ensures, c.rows_of.ensures, c.rows_of-2.ensures) at c.scale_cells.ensures)

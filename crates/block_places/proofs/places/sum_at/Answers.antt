-- `block_places::places::sum_at`: behind all working cells.
use native.Mathlib.Omega.{arith}
use Rattle.layout.specs.Shapes.{sum_at}
use Rattle.layout.proofs.Places.{theta_inside}
use Rattle.block_places.proofs.block_sizes.Sizes.{doubles_small}
use Rattle.block_places.proofs.places.sum_at.Goals as goal

pub overflow_add-result : goal.overflow_add-result
overflow_add-result c = omega (arith, theta_inside c.args.layout, doubles_small c.args.layout c.requires, c.theta_at.ensures, c.theta_length.ensures)

pub overflow_add-result-2 : goal.overflow_add-result-2
unfolding sum_at
overflow_add-result-2 c = omega (arith, doubles_small c.args.layout c.requires, c.theta_at.ensures, c.theta_length.ensures, c.all_cells.ensures)

pub returns : goal.returns
unfolding sum_at
returns c = omega (arith, c.theta_at.ensures, c.theta_length.ensures, c.all_cells.ensures)

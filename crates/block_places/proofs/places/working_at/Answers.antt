-- `block_places::places::working_at`: behind theta, the working cells before it.
use native.Mathlib.Omega.{arith}
use Rattle.layout.specs.Shapes.{working_at}
use Rattle.layout.proofs.Places.{theta_inside, working_inside}
use Rattle.block_places.proofs.block_sizes.Sizes.{doubles_small}
use Rattle.block_places.proofs.places.working_at.Goals as goal

pub overflow_add-result : goal.overflow_add-result
overflow_add-result c = omega (arith, theta_inside c.args.layout, doubles_small c.args.layout c.requires.0, c.theta_at.ensures, c.theta_length.ensures)

pub overflow_add-result-2 : goal.overflow_add-result-2
unfolding working_at
overflow_add-result-2 c = let a = c.args in
    omega (arith, working_inside a.layout a.i a.j c.requires.1 c.requires.2, doubles_small a.layout c.requires.0, c.theta_at.ensures, c.theta_length.ensures, c.cells_before.ensures)

pub returns : goal.returns
unfolding working_at
returns c = omega (arith, c.theta_at.ensures, c.theta_length.ensures, c.cells_before.ensures)

-- `block_places::places::theta_at`: all loaded cells.
use Rattle.layout.specs.Shapes.{triangle_end}
use Rattle.block_places.proofs.places.theta_at.Goals as goal

pub returns : goal.returns
unfolding triangle_end
returns c = c.all_cells.ensures

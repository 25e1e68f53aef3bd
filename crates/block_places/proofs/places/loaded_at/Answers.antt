-- `block_places::places::loaded_at`: the loaded cells before it.
use Rattle.layout.specs.Shapes.{loaded_at}
use Rattle.block_places.proofs.places.loaded_at.Goals as goal

pub returns : goal.returns
unfolding loaded_at
returns c = c.cells_before.ensures

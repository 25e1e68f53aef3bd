-- `block_places::block`: each part is what its function says.
use mathlib.Core.Path.{refl}
use Rattle.block_places.proofs.block.Goals as goal

pub returns : goal.returns
returns c = rw (c.working_at.ensures, c.rows_of.ensures, c.rows_of-2.ensures) refl

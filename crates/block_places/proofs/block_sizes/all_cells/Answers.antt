-- `block_places::block_sizes::all_cells`: where the last triangle ends.
use native.Mathlib.Omega.{arith}
use Rattle.block_places.specs.block_sizes.Kind.{sizes_of}
use Rattle.block_places.proofs.block_sizes.Sizes.{cells_small}
use Rattle.block_places.proofs.block_sizes.Before.{last_ends}
use Rattle.block_places.proofs.block_sizes.all_cells.Goals as goal

pub overflow_add-result : goal.overflow_add-result
overflow_add-result c = omega (arith, last_ends (sizes_of c.args.layout c.args.loaded) c.args.layout.k, cells_small c.args.layout c.requires c.args.loaded, c.cells_before.ensures, c.size_of.ensures)

pub returns : goal.returns
returns c = omega (arith, last_ends (sizes_of c.args.layout c.args.loaded) c.args.layout.k, c.cells_before.ensures, c.size_of.ensures)

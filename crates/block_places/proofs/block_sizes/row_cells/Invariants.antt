-- `block_places::block_sizes::row_cells`: the cells of the first j blocks of the row.
use Rattle.layout.specs.Shapes.{across, cells_of}
use Rattle.block_places.specs.block_sizes.Kind.{sizes_of}
use Rattle.block_places.proofs.block_sizes.Growing.{Summing}
use Rattle.block_places.proofs.block_sizes.row_cells.Given as goal

abbrev pub invariant-loop-j : goal.invariant-loop-j
invariant-loop-j l = Summing (λ x. cells_of (sizes_of l.layout l.loaded) (across l.i x)) (sizes_of l.layout l.loaded l.i) l.n l.cells l.j

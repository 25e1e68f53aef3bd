-- `block_places::block_sizes::factor_cells`: the cells of the first j factors.
use Rattle.layout.specs.Shapes.{factors, cells_of}
use Rattle.block_places.specs.block_sizes.Kind.{sizes_of}
use Rattle.block_places.proofs.block_sizes.Growing.{Summing}
use Rattle.block_places.proofs.block_sizes.factor_cells.Given as goal

abbrev pub invariant-loop-j : goal.invariant-loop-j
invariant-loop-j l = Summing (λ x. cells_of (sizes_of l.layout l.loaded) (factors x)) (λ x. sizes_of l.layout l.loaded x x) l.n l.cells l.j

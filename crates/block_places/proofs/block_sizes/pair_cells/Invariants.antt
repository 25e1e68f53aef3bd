-- `block_places::block_sizes::pair_cells`: the cells of the pairs of the first i factors.
use Rattle.layout.specs.Shapes.{across, pairs, cells_of}
use Rattle.block_places.specs.block_sizes.Kind.{sizes_of}
use Rattle.block_places.proofs.block_sizes.Growing.{Summing}
use Rattle.block_places.proofs.block_sizes.pair_cells.Given as goal

abbrev pub invariant-loop-i : goal.invariant-loop-i
invariant-loop-i l = Summing (λ x. cells_of (sizes_of l.layout l.loaded) (pairs x)) (λ x. cells_of (sizes_of l.layout l.loaded) (across x x)) l.n l.cells l.i

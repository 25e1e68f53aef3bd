use native.Mathlib.Omega.{arith}
use Rattle.block_places.specs.block_sizes.Kind.{sizes_of}
use Rattle.block_places.proofs.block_sizes.Growing.{summing_none, summing_fits, summing_more, summing_all, pairs_sums}
use Rattle.block_places.proofs.block_sizes.Sizes.{few_blocks, row_small}
use Rattle.block_places.proofs.block_sizes.pair_cells.Goals as goal

pub loop-i-init : goal.loop-i-init
loop-i-init c = let a = c.args in
    summing_none (pairs_sums (sizes_of a.layout a.loaded)) (λ x h. row_small a.layout c.requires.0 a.loaded x (omega arith)) (omega (arith, few_blocks a.layout c.requires.0))

pub row_cells-cells-requires : goal.row_cells-cells-requires
row_cells-cells-requires c = (c.requires.0, omega arith, omega arith)

pub overflow_add-cells : goal.overflow_add-cells
overflow_add-cells c = omega (arith, summing_fits c.loop-i.invariant (omega arith) c.row_cells-cells.ensures)

pub loop-i-preserved : goal.loop-i-preserved
loop-i-preserved c = summing_more c.loop-i.invariant (omega arith) c.row_cells-cells.ensures

pub returns : goal.returns
returns c = summing_all c.loop-i.invariant (omega arith)

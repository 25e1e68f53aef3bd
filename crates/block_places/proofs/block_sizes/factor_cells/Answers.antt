use native.Mathlib.Omega.{arith}
use Rattle.block_places.specs.block_sizes.Kind.{sizes_of}
use Rattle.block_places.proofs.block_sizes.Growing.{summing_none, summing_fits, summing_more, summing_all, factors_sums}
use Rattle.block_places.proofs.block_sizes.Sizes.{few_blocks, block_small}
use Rattle.block_places.proofs.block_sizes.factor_cells.Goals as goal

pub loop-j-init : goal.loop-j-init
loop-j-init c = let a = c.args in
    summing_none (factors_sums (sizes_of a.layout a.loaded)) (λ x h. omega (arith, block_small a.layout c.requires.0 a.loaded x x (omega arith) (omega arith))) (omega (arith, few_blocks a.layout c.requires.0))

pub size_of-cells-requires : goal.size_of-cells-requires
size_of-cells-requires c = (c.requires.0, omega arith, omega arith)

pub overflow_add-cells : goal.overflow_add-cells
overflow_add-cells c = omega (arith, summing_fits c.loop-j.invariant (omega arith) c.size_of-cells.ensures)

pub loop-j-preserved : goal.loop-j-preserved
loop-j-preserved c = summing_more c.loop-j.invariant (omega arith) c.size_of-cells.ensures

pub returns : goal.returns
returns c = summing_all c.loop-j.invariant (omega arith)

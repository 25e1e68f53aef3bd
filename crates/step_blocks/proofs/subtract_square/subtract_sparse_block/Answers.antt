-- `step_blocks::subtract_square::subtract_sparse_block`: the fixed rows with the sparse pair.
use Rattle.block_runs.specs.blocks.Blocks.{row_from}
use Rattle.step_blocks.proofs.subtract_dense.Ready.{sparse_ready}
use Rattle.heading_format.specs.Parts.{heading_length}
use Rattle.step_blocks.proofs.subtract_square.subtract_sparse_block.Goals as goal

pub subtract_sparse-requires : goal.subtract_sparse-requires
subtract_sparse-requires c = let a = c.args in
    rw (c.block-t.ensures, c.block-a.ensures, c.block-v.ensures) (let r = sparse_ready a.layout c.requires.0.valid _ c.requires.0.room (row_from a.heading.now heading_length) c.requires.1 c.requires.2 in (r.0, r.1, c.requires.3, c.requires.4))

pub returns : goal.returns
returns c = rw (c.block-t.ensures, c.block-a.ensures, c.block-v.ensures) at c.subtract_sparse.ensures

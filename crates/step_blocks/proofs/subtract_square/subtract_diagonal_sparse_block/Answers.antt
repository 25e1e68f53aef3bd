-- `step_blocks::subtract_square::subtract_diagonal_sparse_block`: the diagonal with its sparse pair.
use Rattle.block_runs.specs.blocks.Blocks.{row_from}
use Rattle.step_blocks.proofs.subtract_dense.Ready.{entries_ready}
use Rattle.heading_format.specs.Parts.{heading_length}
use Rattle.step_blocks.proofs.subtract_square.subtract_diagonal_sparse_block.Goals as goal

pub rank_sub_diagonal_sparse-requires : goal.rank_sub_diagonal_sparse-requires
rank_sub_diagonal_sparse-requires c = let a = c.args in
    rw (c.block-t.ensures, c.block-a.ensures, c.loaded_at-src.ensures) (entries_ready a.layout c.requires.0.valid _ c.requires.0.room (row_from a.heading.now heading_length) c.requires.1 c.requires.2, c.requires.3)

pub returns : goal.returns
returns c = rw (c.block-t.ensures, c.block-a.ensures, c.loaded_at-src.ensures) at c.rank_sub_diagonal_sparse.ensures

-- `step_blocks::subtract_square::subtract_diagonal_block`: the diagonal with its dense pair.
use Rattle.step_blocks.proofs.subtract_dense.Ready.{diagonal_ready}
use Rattle.step_blocks.proofs.subtract_square.subtract_diagonal_block.Goals as goal

pub rank_sub_diagonal-requires : goal.rank_sub_diagonal-requires
rank_sub_diagonal-requires c = let a = c.args in
    rw (c.block-t.ensures, c.block-a.ensures, c.loaded_at-src.ensures) (diagonal_ready a.layout c.requires.0.valid _ c.requires.0.room (λ x. 0) c.requires.1 c.requires.2 c.requires.3)

pub returns : goal.returns
returns c = rw (c.block-t.ensures, c.block-a.ensures, c.loaded_at-src.ensures) at c.rank_sub_diagonal.ensures

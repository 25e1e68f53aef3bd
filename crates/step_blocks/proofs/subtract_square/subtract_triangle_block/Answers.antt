-- `step_blocks::subtract_square::subtract_triangle_block`: a triangle with one of its pairs.
use Rattle.step_blocks.proofs.subtract_dense.Ready.{triangle_ready}
use Rattle.step_blocks.proofs.subtract_square.subtract_triangle_block.Goals as goal

pub rank_sub-requires : goal.rank_sub-requires
rank_sub-requires c = let a = c.args in
    rw (c.block-t.ensures, c.block-a.ensures) (triangle_ready a.layout c.requires.0.valid _ c.requires.0.room (λ x. 0) a.j a.x c.requires.1 c.requires.2 c.requires.3)

pub returns : goal.returns
returns c = rw (c.block-t.ensures, c.block-a.ensures) at c.rank_sub.ensures

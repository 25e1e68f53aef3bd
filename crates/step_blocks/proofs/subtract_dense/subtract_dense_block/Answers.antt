-- `step_blocks::subtract_dense::subtract_dense_block`: a dense block with two dense sources.
use Rattle.step_blocks.proofs.subtract_dense.Ready.{dense_ready}
use Rattle.step_blocks.proofs.subtract_dense.subtract_dense_block.Goals as goal

pub subtract_dense-requires : goal.subtract_dense-requires
subtract_dense-requires c = let a = c.args in
    rw (c.block-t.ensures, c.block-a.ensures, c.block-b.ensures) (dense_ready a.layout c.requires.0.valid _ c.requires.0.room (λ x. 0) a.i a.j a.x c.requires.1 c.requires.2 c.requires.3 c.requires.4)

pub returns : goal.returns
returns c = rw (c.block-t.ensures, c.block-a.ensures, c.block-b.ensures) at c.subtract_dense.ensures

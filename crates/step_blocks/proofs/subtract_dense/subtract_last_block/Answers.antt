-- `step_blocks::subtract_dense::subtract_last_block`: the last triangle with the fixed rows of one factor.
use Rattle.step_blocks.proofs.subtract_dense.Ready.{last_ready}
use Rattle.step_blocks.proofs.subtract_dense.subtract_last_block.Goals as goal

pub subtract_last-requires : goal.subtract_last-requires
subtract_last-requires c = let a = c.args in
    rw (c.block-t.ensures, c.block-a.ensures) (last_ready a.layout c.requires.0.valid _ c.requires.0.room (λ x. 0) a.x c.requires.1)

pub returns : goal.returns
returns c = rw (c.block-t.ensures, c.block-a.ensures) at c.subtract_last.ensures

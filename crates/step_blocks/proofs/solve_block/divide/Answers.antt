-- `step_blocks::solve_block::divide`: a dense block with a diagonal.
use Rattle.step_blocks.proofs.solve_block.Ready.{divide_ready}
use Rattle.step_blocks.proofs.solve_block.divide.Goals as goal

pub divide_columns-requires : goal.divide_columns-requires
divide_columns-requires c = let a = c.args in
    rw (c.block-t.ensures, c.block-f.ensures) (divide_ready a.layout c.requires.0.valid (λ x. 0) _ c.requires.0.room a.i a.j c.requires.1 c.requires.2 c.requires.3 c.requires.4)

pub returns : goal.returns
returns c = rw (c.block-t.ensures, c.block-f.ensures) at c.divide_columns.ensures

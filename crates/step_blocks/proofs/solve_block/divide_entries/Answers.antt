-- `step_blocks::solve_block::divide_entries`: the entries of the sparse pair with the first diagonal.
use Rattle.step_blocks.proofs.solve_block.Ready.{entries_ready}
use Rattle.step_blocks.proofs.solve_block.divide_entries.Goals as goal

pub divide_columns-requires : goal.divide_columns-requires
divide_columns-requires c = rw (c.block-v.ensures, c.block-f.ensures) (entries_ready c.args.layout c.requires.0.valid (λ x. 0) _ c.requires.0.room c.requires.1 c.requires.2)

pub returns : goal.returns
returns c = rw (c.block-v.ensures, c.block-f.ensures) at c.divide_columns.ensures

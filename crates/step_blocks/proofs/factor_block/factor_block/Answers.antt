-- `step_blocks::factor_block::factor_block`: the kernel of its kind.
use Rattle.update.specs.Working.{refused_row}
use Rattle.step_blocks.proofs.factor_block.factor_block.Goals as goal

pub chol_diagonal-requires : goal.chol_diagonal-requires
chol_diagonal-requires c = rw c.in-Diagonal.is at c.requires.0

pub chol-requires : goal.chol-requires
chol-requires c = let e = c.in-Packed.is in (c.requires.1 e, rw e at c.requires.0)

pub returns-in-Diagonal : goal.returns-in-Diagonal
unfolding refused_row
returns-in-Diagonal c = rw c.in-Diagonal.is c.chol_diagonal.ensures

pub returns-in-Packed : goal.returns-in-Packed
unfolding refused_row
returns-in-Packed c = rw c.in-Packed.is c.chol.ensures

-- `cross_block::divide_columns::divide_columns`: the first c columns are divided.
use Rattle.storage.specs.Placed.{as_columns}
use Rattle.block_runs.proofs.blocks.Going.{Going}
use Rattle.cross_block.specs.Blocks.{divided_cell}
use Rattle.cross_block.proofs.divide_columns.divide_columns.Given as goal

abbrev pub invariant-loop-c : goal.invariant-loop-c
invariant-loop-c l = Going (as_columns l.t) (divided_cell l.t l.f l.initial.doubles) l.initial.doubles l.c l.to l.doubles

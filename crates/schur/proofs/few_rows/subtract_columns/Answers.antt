use mathlib.Core.Path.{refl}
use native.Mathlib.Omega.{arith}
use Rattle.storage.specs.Runs.{dense}
use Rattle.block_runs.proofs.blocks.Runs.{writing_none, writing_room, writing_all}
use Rattle.schur.proofs.few_rows.Laws.{column_subtracted}
use Rattle.schur.proofs.few_rows.subtract_columns.Goals as goal

pub loop-c-init : goal.loop-c-init
loop-c-init c = let a = c.args in writing_none 0 _ (dense a.rows) a.cols _ a.t.now (omega arith) (omega arith)

pub subtract_column-requires : goal.subtract_column-requires
subtract_column-requires c = omega (arith, writing_room c.loop-c.invariant (omega arith))

pub overflow_add-to : goal.overflow_add-to
overflow_add-to c = omega (arith, writing_room c.loop-c.invariant (omega arith))

pub loop-c-preserved : goal.loop-c-preserved
loop-c-preserved c = let a = c.args in
    column_subtracted a.sums.now c.loop-c.invariant (omega arith) refl c.subtract_column.ensures

pub returns : goal.returns
returns c = writing_all c.loop-c.invariant (omega arith)

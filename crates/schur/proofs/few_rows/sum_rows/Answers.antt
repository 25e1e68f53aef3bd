use mathlib.Core.Path.{refl}
use native.Mathlib.Omega.{arith}
use Rattle.storage.specs.Runs.{dense}
use Rattle.block_runs.proofs.blocks.Runs.{writing_none, writing_room, writing_more, writing_all}
use Rattle.schur.proofs.few_rows.Laws.{two_rows, two_rows_room}
use Rattle.schur.proofs.few_rows.sum_rows.Goals as goal

pub loop-r-init : goal.loop-r-init
loop-r-init c = let a = c.args in (refl, refl, writing_none 0 _ (dense a.b.rows) a.a.rows _ a.t.now (omega arith) (omega arith))

pub sum_two_rows-requires : goal.sum_two_rows-requires
sum_two_rows-requires c = omega (arith, two_rows_room c.loop-r.invariant.2 (omega arith))

pub overflow_add-from : goal.overflow_add-from
overflow_add-from c = omega (arith, two_rows_room c.loop-r.invariant.2 (omega arith))

pub loop-r-preserved : goal.loop-r-preserved
loop-r-preserved c = (omega arith, omega arith, two_rows c.loop-r.invariant.2 (omega arith) refl c.sum_two_rows.ensures)

pub sum_row-requires : goal.sum_row-requires
sum_row-requires c = omega (arith, writing_room c.loop-r.invariant.2 (omega arith))

pub returns-then-r-a : goal.returns-then-r-a
returns-then-r-a c = let l = c.loop-r in
    writing_all (writing_more l.invariant.2 (omega arith) l.from c.args.b.rows _ (omega arith) refl refl (λ i h. refl) c.sum_row.ensures) (omega arith)

pub returns-else-r-a : goal.returns-else-r-a
returns-else-r-a c = writing_all c.loop-r.invariant.2 (omega arith)

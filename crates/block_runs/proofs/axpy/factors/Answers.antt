use mathlib.Core.Path.{ap, ◌∙◌}
use mathlib.Core.List.{List}
use native.Mathlib.Omega.{arith}
use Rattle.rules.specs.Arithmetic.{ieee}
use lib.ListN.{length, length-replicate}
use lib.Ieee.{Float}
use Rattle.block_runs.specs.axpy.Axpy.{at, signed_of}
use Rattle.storage.proofs.Filling.{filling_none, array_more, filling_done}
use Rattle.block_runs.proofs.axpy.Sums.{column_read, column_room, read_run}
use Rattle.block_runs.proofs.axpy.factors.Goals as goal

pub loop-j-init : goal.loop-j-init
loop-j-init g c = filling_none _ 0 g.row.N _ (omega (arith, length-replicate g.row.N ieee.zero))

pub overflow_mul-j : goal.overflow_mul-j
overflow_mul-j g c = let a = c.args in
    omega (arith, column_room a.q a.step g.row.N (length a.v.now) a.r c.loop-j.j (omega arith) (omega arith) (omega arith))

pub overflow_add-q : goal.overflow_add-q
overflow_add-q g c = let a = c.args in
    omega (arith, column_room a.q a.step g.row.N (length a.v.now) a.r c.loop-j.j (omega arith) (omega arith) (omega arith))

pub overflow_add-q-in-loop-j : goal.overflow_add-q-in-loop-j
overflow_add-q-in-loop-j g c = let a = c.args in
    omega (arith, column_room a.q a.step g.row.N (length a.v.now) a.r c.loop-j.j (omega arith) (omega arith) (omega arith))

pub offset_bounds-v-q : goal.offset_bounds-v-q
offset_bounds-v-q g c = let a = c.args in
    omega (arith, column_room a.q a.step g.row.N (length a.v.now) a.r c.loop-j.j (omega arith) (omega arith) (omega arith))

pub bounds-v-q : goal.bounds-v-q
bounds-v-q g c = let a = c.args in
    column_room a.q a.step g.row.N (length a.v.now) a.r c.loop-j.j (omega arith) (omega arith) (omega arith)

pub loop-j-preserved : goal.loop-j-preserved
loop-j-preserved g c = let a = c.args in
    array_more c.loop-j.invariant (omega arith)
    (c.signed.ensures ∙ ap (signed_of a.subtract) (column_read a.q a.step g.row.N a.v.now a.r c.loop-j.j (omega arith) (omega arith) (omega arith)))

pub returns : goal.returns
returns g c = λ j l.
    ap (λ (x : List Float). at x j) (filling_done c.loop-j.invariant (omega arith)) ∙ read_run 0 g.row.N _ _ c.loop-j.invariant.fits j j l (omega arith)

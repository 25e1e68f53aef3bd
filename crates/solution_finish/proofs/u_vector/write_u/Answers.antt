use native.Mathlib.Omega.{arith}
use Rattle.storage.proofs.Filling.{filling_none, filling_more, filling_done}
use Rattle.solution_finish.proofs.u_vector.Sums.{next_offset}
use Rattle.solution_finish.proofs.u_vector.write_u.Goals as goal

pub loop-i-init : goal.loop-i-init
loop-i-init c = filling_none _ c.args.u c.args.q c.args.v.now (omega (arith, c.requires.0, c.requires.1, c.requires.2, c.requires.3))

pub overflow_add-v : goal.overflow_add-v
overflow_add-v c = omega (arith, c.requires.0, c.requires.1, c.requires.2, c.requires.3, c.loop-i.invariant.long, c.loop-i-test.true)

pub offset_bounds-v-wy : goal.offset_bounds-v-wy
offset_bounds-v-wy c = omega (arith, c.requires.0, c.requires.1, c.requires.2, c.requires.3, c.loop-i.invariant.long, c.loop-i-test.true)

pub bounds-v-wy : goal.bounds-v-wy
bounds-v-wy c = omega (arith, c.requires.0, c.requires.1, c.requires.2, c.requires.3, c.loop-i.invariant.long, c.loop-i-test.true)

pub overflow_add-first : goal.overflow_add-first
overflow_add-first c = omega (arith, c.requires.0, c.requires.1, c.requires.2, c.requires.3, c.loop-i.invariant.long, c.loop-i-test.true)

pub row_sum-requires : goal.row_sum-requires
row_sum-requires c = (omega (arith, c.requires.0, c.requires.1, c.requires.2, c.requires.3, c.loop-i.invariant.long, c.loop-i-test.true), omega (arith, c.requires.0, c.requires.1, c.requires.2, c.requires.3, c.loop-i.invariant.long, c.loop-i-test.true), omega (arith, c.requires.0, c.requires.1, c.requires.2, c.requires.3, c.loop-i.invariant.long, c.loop-i-test.true))

pub overflow_add-v-in-loop-i : goal.overflow_add-v-in-loop-i
overflow_add-v-in-loop-i c = omega (arith, c.requires.0, c.requires.1, c.requires.2, c.requires.3, c.loop-i.invariant.long, c.loop-i-test.true)

pub offset_bounds-v-u : goal.offset_bounds-v-u
offset_bounds-v-u c = omega (arith, c.requires.0, c.requires.1, c.requires.2, c.requires.3, c.loop-i.invariant.long, c.loop-i-test.true)

pub bounds-v-u : goal.bounds-v-u
bounds-v-u c = omega (arith, c.requires.0, c.requires.1, c.requires.2, c.requires.3, c.loop-i.invariant.long, c.loop-i-test.true)

pub loop-i-preserved : goal.loop-i-preserved
loop-i-preserved c = filling_more c.loop-i.invariant c.loop-i-test.true (next_offset c.requires.0 c.requires.1 c.requires.2 c.loop-i.invariant c.loop-i-test.true _ c.row_sum.ensures)

pub shape_of-v : goal.shape_of-v
shape_of-v c = c.loop-i.invariant.long

pub returns : goal.returns
returns c = filling_done c.loop-i.invariant (omega (arith, c.loop-i-test.false))

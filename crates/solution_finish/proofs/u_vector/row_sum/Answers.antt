use native.Mathlib.Omega.{arith}
use Rattle.solution_finish.proofs.u_vector.Sums.{adding_none, adding_all, adding_inside, adding_more}
use Rattle.solution_finish.proofs.u_vector.row_sum.Goals as goal

pub loop-j-init : goal.loop-j-init
loop-j-init c = adding_none _ _ _ _ c.requires.0 c.requires.1 c.requires.2

pub offset_bounds-v-at : goal.offset_bounds-v-at
offset_bounds-v-at c = omega (arith, adding_inside c.loop-j.invariant c.loop-j-test.true)

pub bounds-v-at : goal.bounds-v-at
bounds-v-at c = adding_inside c.loop-j.invariant c.loop-j-test.true

pub offset_bounds-v-j : goal.offset_bounds-v-j
offset_bounds-v-j c = omega (arith, c.loop-j.invariant.beta, c.loop-j-test.true)

pub bounds-v-j : goal.bounds-v-j
bounds-v-j c = omega (arith, c.loop-j.invariant.beta, c.loop-j-test.true)

pub overflow_add-at : goal.overflow_add-at
overflow_add-at c = omega (arith, adding_inside c.loop-j.invariant c.loop-j-test.true, c.loop-j.invariant.step)

pub loop-j-preserved : goal.loop-j-preserved
loop-j-preserved c = adding_more c.loop-j.invariant c.loop-j-test.true

pub returns : goal.returns
returns c = adding_all c.loop-j.invariant (omega (arith, c.loop-j-test.false))

use native.Mathlib.Omega.{arith}
use Rattle.solution_finish.proofs.l_x.Finish.{scanning_none, scanning_all, scanning_inside, scanning_found, scanning_more}
use Rattle.solution_finish.proofs.l_x.first_not_above.Goals as goal

pub loop-r-init : goal.loop-r-init
loop-r-init c = scanning_none _ _ _ c.requires

pub offset_bounds-v-at : goal.offset_bounds-v-at
offset_bounds-v-at c = omega (arith, scanning_inside c.loop-r.invariant c.loop-r-test.true)

pub bounds-v-at : goal.bounds-v-at
bounds-v-at c = scanning_inside c.loop-r.invariant c.loop-r-test.true

pub returns-then-not_above : goal.returns-then-not_above
returns-then-not_above c = scanning_found c.loop-r.invariant c.loop-r-test.true _ c.not_above.ensures c.if-not_above.true

pub overflow_add-at : goal.overflow_add-at
overflow_add-at c = omega (arith, c.loop-r.invariant.place, scanning_inside c.loop-r.invariant c.loop-r-test.true)

pub loop-r-preserved : goal.loop-r-preserved
loop-r-preserved c = scanning_more c.loop-r.invariant c.loop-r-test.true _ c.not_above.ensures c.if-not_above.false

pub returns : goal.returns
returns c = scanning_all c.loop-r.invariant (omega (arith, c.loop-r-test.false))

pub overflow_add-at-in-loop-r : goal.overflow_add-at-in-loop-r
overflow_add-at-in-loop-r c = omega (arith, c.loop-r-test.true, scanning_inside c.loop-r.invariant c.loop-r-test.true)

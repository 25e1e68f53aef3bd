-- `heading_check::forerunner_check::walk_all`: the columns from j on still end as the walk over all does.
use Prim.Native.Nat.{suc, ◌*◌, ◌≤◌}
use Rattle.step_order.specs.Steps.{each, column_steps}
use Rattle.heading_check.specs.stage_check.Walk.{walked, stages_in}
use Rattle.heading_check.proofs.stage_check.Walks.{Going}
use Rattle.heading_check.proofs.forerunner_check.walk_all.Given as goal

abbrev pub invariant-loop-j : goal.invariant-loop-j
invariant-loop-j l = Going (stages_in l.heading) (walked (stages_in l.heading) l.initial.v (each (column_steps l.k) 0 (suc l.k))) (column_steps l.k) l.j (suc l.k) l.v × (l.v.left ≤ 90 * l.j)

-- `heading_check::forerunner_check::subtract_all`: the steps from x on still end as the walk over all does.
use Prim.Native.Nat.{◌+◌, ◌≤◌}
use mathlib.Core.List.{[], ◌∷◌}
use Rattle.step_order.specs.Steps.{S, subtractions}
use Rattle.heading_check.specs.stage_check.Walk.{walked, stages_in}
use Rattle.heading_check.proofs.stage_check.Walks.{Going}
use Rattle.heading_check.proofs.forerunner_check.subtract_all.Given as goal

abbrev pub invariant-loop-x : goal.invariant-loop-x
invariant-loop-x l = Going (stages_in l.heading) (walked (stages_in l.heading) l.initial.v (subtractions l.i l.j)) (λ s. S l.i l.j s ∷ []) l.x l.j l.v × (l.v.left ≤ l.initial.v.left + l.x)

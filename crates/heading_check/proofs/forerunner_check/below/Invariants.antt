-- `heading_check::forerunner_check::below`: the targets from row i on still end as the walk over all does.
use Prim.Native.Nat.{suc, ◌+◌, ◌-◌, ◌*◌, ◌≤◌, ◌<◌}
use mathlib.Core.List.{[], ◌∷◌, ◌++◌}
use Rattle.step_order.specs.Steps.{T, each, subtractions}
use Rattle.heading_check.specs.stage_check.Walk.{walked, stages_in}
use Rattle.heading_check.proofs.stage_check.Walks.{Going}
use Rattle.heading_check.proofs.forerunner_check.below.Given as goal

abbrev pub invariant-loop-i : goal.invariant-loop-i
invariant-loop-i l = Going (stages_in l.heading) (walked (stages_in l.heading) l.initial.v (each (λ r. subtractions r l.j ++ (T r l.j ∷ [])) (suc l.j) (l.k - l.j))) (λ r. subtractions r l.j ++ (T r l.j ∷ [])) l.i (suc l.k) l.v
    × (l.v.left ≤ l.initial.v.left + 9 * l.i)
    × (l.j < l.i)

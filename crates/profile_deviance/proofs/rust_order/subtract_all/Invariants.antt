-- `profile_deviance::rust_order::subtract_all`: what the subtractions from x on come to, all of them come to.
use mathlib.Core.Path.{◌≡◌}
use mathlib.Core.List.{[], ◌∷◌}
use lib.ListN.{length}
use Rattle.step_order.specs.Steps.{S, subtractions}
use Rattle.workspace.specs.Answers.{workspace}
use Rattle.profile_deviance.proofs.ready_step.Runs.{Going}
use Rattle.profile_deviance.proofs.rust_order.subtract_all.Given as goal

abbrev pub invariant-loop-x : goal.invariant-loop-x
invariant-loop-x l = Going (workspace l.initial.heading l.initial.doubles) (subtractions l.i l.j) (λ z. S l.i l.j z ∷ []) l.x l.j (workspace l.heading l.doubles) × (length l.heading ≡ length l.initial.heading) × (length l.doubles ≡ length l.initial.doubles)

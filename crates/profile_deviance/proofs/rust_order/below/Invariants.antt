-- `profile_deviance::rust_order::below`: what the targets from row i on come to, all of them come to.
use Prim.Native.Nat.{suc, ◌-◌}
use mathlib.Core.Path.{◌≡◌}
use mathlib.Core.List.{[], ◌∷◌, ◌++◌}
use lib.ListN.{length}
use Rattle.step_order.specs.Steps.{T, each, subtractions}
use Rattle.workspace.specs.Answers.{workspace}
use Rattle.profile_deviance.proofs.ready_step.Runs.{Going}
use Rattle.profile_deviance.proofs.rust_order.below.Given as goal

abbrev pub invariant-loop-i : goal.invariant-loop-i
invariant-loop-i l = Going (workspace l.initial.heading l.initial.doubles) (each (λ z. subtractions z l.j ++ (T z l.j ∷ [])) (suc l.j) (l.k - l.j)) (λ z. subtractions z l.j ++ (T z l.j ∷ [])) l.i (suc l.k) (workspace l.heading l.doubles) × (length l.heading ≡ length l.initial.heading) × (length l.doubles ≡ length l.initial.doubles)

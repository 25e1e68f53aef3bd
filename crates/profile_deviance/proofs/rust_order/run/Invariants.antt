-- `profile_deviance::rust_order::run`: what the columns from j on come to, all of them come to.
use Prim.Native.Nat.{suc}
use mathlib.Core.Path.{◌≡◌}
use lib.ListN.{length}
use Rattle.step_order.specs.Steps.{each, column_steps}
use Rattle.workspace.specs.Answers.{workspace}
use Rattle.profile_deviance.proofs.ready_step.Runs.{Going}
use Rattle.profile_deviance.proofs.rust_order.run.Given as goal

abbrev pub invariant-loop-j : goal.invariant-loop-j
invariant-loop-j l = Going (workspace l.initial.heading l.initial.doubles) (each (column_steps l.k) 0 (suc l.k)) (column_steps l.k) l.j (suc l.k) (workspace l.heading l.doubles) × (length l.heading ≡ length l.initial.heading) × (length l.doubles ≡ length l.initial.doubles)

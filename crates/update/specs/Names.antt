-- The step that a name names (document 01, Record 4).
use Rattle.step_order.specs.Steps.{Step, S, C, T}
use Rattle.update.specs.declared.StepName.{StepName}
use Rattle.update.specs.declared.StepName.TheVariants.{S as Subtract, C as Factor, T as Solve}

abbrev pub step_of_name : StepName → Step
step_of_name (Subtract i j h) = S i j h
step_of_name (Factor j) = C j
step_of_name (Solve i j) = T i j

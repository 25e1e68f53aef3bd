-- What a step that is ready answers, leaves of the doubles and hands back (document 01, Record 5).
use Rattle.std.specs.Prelude.{ℕ, ◌≡◌, List, Float, Ok}
use Rattle.std.proofs.Math.Option.{Option, none, some}
use Rattle.refusal.specs.Numbers.{refuse}
use Rattle.step_order.specs.Steps.{Step, col}
use Rattle.layout.specs.declared.Layout.{Layout}
use Rattle.heading_format.specs.declared.Progress.{Progress}
use Rattle.heading_format.specs.Heading.{idle}
use Rattle.workspace.specs.Memory.{cleared}
use Rattle.update.specs.Calls.{advanced, refused_by, stepped}
use Rattle.step.specs.declared.step_result.StepResult.{StepResult}

-- the answer and the progress, by the row of the pivot that the step refuses: one step more, or 26 and no update
abbrev pub moved_by : Layout → Progress → Step → Option ℕ → StepResult
moved_by y g s none = record { answer = Ok tt; progress = advanced g s }
moved_by y g s (some r) = record { answer = refuse 26 (col s) r; progress = idle y.k }

-- the doubles: as the step leaves them, or the working ones +0.0
abbrev pub doubles_by : Layout → List ℕ → List Float → Step → Option ℕ → List Float
doubles_by y h w s none = (stepped h w s).doubles
doubles_by y h w s (some r) = cleared y w

-- step s, taken on the doubles w: w' is left, and m handed back
pub record Applied (y : Layout) (g : Progress) (h : List ℕ) (w w' : List Float) (s : Step) (m : StepResult) : Type 0 where
  pub moved : m ≡ moved_by y g s (refused_by h w s)
  pub doubles : w' ≡ doubles_by y h w s (refused_by h w s)

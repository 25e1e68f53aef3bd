-- A workspace in the middle of an update whose steps come in an order that lets each of them be taken (document 01, Record 5), and what a run of steps
-- comes to.
use Rattle.std.specs.Prelude.{◌≡◌, Bool, true, false, List, ◌++◌, length, Result, Ok, Err}
use Rattle.step_order.specs.Steps.{Step}
use Rattle.step_order.specs.Progress.{Order, Represents}
use Rattle.heading_format.specs.declared.State.TheVariants.{Idle}
use Rattle.heading_format.specs.Heading.{layout_of, progress_of, stage_of, valid_heading}
use Rattle.workspace.specs.Memory.{Workspace}
use Rattle.workspace.specs.Answers.{Outcome}
use Rattle.update.specs.Calls.{run_of}
use Rattle.refusal.specs.declared.Refusal.{Refusal}

-- an answer is a refusal
abbrev pub is_refused : Result Unit Refusal → Bool
is_refused (Ok tt) = false
is_refused (Err r) = true

-- the steps l are still to come, and each finds its forerunners done when its turn comes
pub record ReadyInTurn (v : Workspace) (l : List Step) : Type 0 where
  pub valid : valid_heading v.heading (length v.doubles) ≡ true
  pub begun : (progress_of v.heading).state ≡ Idle → ⊥
  pub set : Step → Bool
  pub stands : Represents (layout_of v.heading).k (stage_of (progress_of v.heading)) set
  pub order : Order (layout_of v.heading).k set l

-- the steps l, run from v on, come to o; where none is refused, those behind them may come
pub record Ran (v : Workspace) (l : List Step) (o : Outcome) : Type 0 where
  pub same : o ≡ run_of v l
  pub next : (rest : List Step) → ReadyInTurn v (l ++ rest) → is_refused o.answer ≡ false → ReadyInTurn o.left rest

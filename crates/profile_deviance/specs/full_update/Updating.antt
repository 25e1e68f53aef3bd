-- What an update comes to (document 01, Record 5: begin, then the Rust's order to its end or its refused pivot): the log determinant, the refused pivot's
-- block and row, or a refusal of begin; and the workspace that it leaves.
use Rattle.std.specs.Prelude.{ℕ, ◌≡◌, Bool, true, false, List, Float, Result, Ok, Err}
use Rattle.step_order.specs.Steps.{rust_order}
use Rattle.refusal.specs.declared.Refusal.{Refusal}
use Rattle.refusal.specs.Numbers.{numbers_of}
use Rattle.heading_format.specs.Heading.{layout_of}
use Rattle.workspace.specs.Memory.{Workspace}
use Rattle.workspace.specs.Answers.{Outcome}
use Rattle.update.specs.Calls.{begin_of, run_of}
use Rattle.profile.specs.declared.Deviance.{Deviance}
use Rattle.profile.specs.declared.Deviance.TheVariants.{Pivot as Unfactored}
use Rattle.profile.specs.Deviance.{log_determinant}
use Rattle.profile_deviance.specs.declared.full_update.Updated.{Updated}
use Rattle.profile_deviance.specs.declared.full_update.Updated.TheVariants.{Value, Pivot}

-- an update's answer, and what it leaves
pub record Updating : Type 0 where
  pub answer : Result Updated Refusal
  pub left : Workspace

-- after the Rust's order: the log determinant, or the pivot that was refused
abbrev pub after_run : Result Unit Refusal → Outcome → Updating
after_run (Ok tt) o = record { answer = Ok (Value (log_determinant o.left.heading o.left.doubles)); left = o.left }
after_run (Err r) o = let n = numbers_of r in record { answer = Ok (Pivot n.first n.second); left = o.left }

-- the Rust's order on a workspace that is begun
unfoldable pub factored : Workspace → Updating
unfolding run_of
factored v = let all = run_of v (rust_order (layout_of v.heading).k) in after_run all.answer all

-- after begin
abbrev pub after_begun : Result Unit Refusal → Outcome → Updating
after_begun (Ok tt) o = factored o.left
after_begun (Err r) o = record { answer = Err r; left = o.left }

unfoldable pub update_of : List ℕ → List Float → List Float → Updating
unfolding begin_of factored
update_of h w theta = let o = begin_of h w theta in after_begun o.answer o

-- it has a log determinant
abbrev pub is_value : Updated → Bool
is_value (Value v) = true
is_value (Pivot j r) = false

-- the deviance of an update that has none
abbrev pub Without : Updated → Deviance → Type 0
Without (Value v) d = ⊥
Without (Pivot j r) d = d ≡ Unfactored j r

-- The profiled deviance (document 01, Record 6): `deviance_from_factor`, and `profile_deviance`, which is begin, the Rust's steps and this.
use Rattle.std.specs.Prelude.{ℕ, Bool, true, false, ◌||◌, cond, List, length, Float, Result, Ok, Err}
use Rattle.std.specs.Float.Ieee as Ieee
use Rattle.std.specs.Float.{binary64}
use Rattle.step_order.specs.Steps.{rust_order}
use Rattle.rules.specs.Arithmetic.{ieee}
use Rattle.rules.specs.Finish.{deviance_of}
use Rattle.layout.specs.declared.Layout.{Layout}
use Rattle.heading_format.specs.declared.State.{State}
use Rattle.heading_format.specs.declared.State.TheVariants.{Idle, UnderWay, Finished}
use Rattle.refusal.specs.declared.Refusal.{Refusal}
use Rattle.layout.specs.Shapes.{pick, last_shape, response_row}
use Rattle.heading_format.specs.Heading.{layout_of, progress_of, valid_heading}
use Rattle.workspace.specs.Memory.{Workspace, cell_of, working_block, log_sum}
use Rattle.refusal.specs.declared.Numbers.{Numbers}
use Rattle.refusal.specs.Numbers.{numbers, numbers_of, refusal, no_refusal}
use Rattle.workspace.specs.Answers.{Outcome}
use Rattle.update.specs.Calls.{begin_of, run_of}
use Rattle.profile.specs.declared.Deviance.{Deviance}
use Rattle.profile.specs.declared.Deviance.TheVariants.{Value, Pivot, NoScale}
use Rattle.std.proofs.Math.Option.{Option, none, some}

-- WHAT AN ANSWER MEANS (document 01: "That definition gives this paper's number and values for each of the enum's cases"): number and places, 26 for a
-- refused pivot and 0 where it is a value or "no scale"; the value; whether it is "no scale"; and the Rust's value, `f64::MAX` for a refused pivot and for
-- "no scale", and none where the Rust has no such answer.
pub record DevianceMeaning : Type 0 where
  pub refusal : Numbers
  pub value : Option Float
  pub no_scale : Bool
  pub rust : Option Float

-- `f64::MAX`
abbrev pub largest : Float
largest = Ieee.of_bits binary64 0x7fefffffffffffff

abbrev pub deviance_meaning : Result Deviance Refusal → DevianceMeaning
deviance_meaning (Ok (Value v)) = record { refusal = no_refusal; value = some v; no_scale = false; rust = some v }
deviance_meaning (Ok (Pivot j r)) = record { refusal = numbers 26 j r; value = none; no_scale = false; rust = some largest }
deviance_meaning (Ok NoScale) = record { refusal = no_refusal; value = none; no_scale = true; rust = some largest }
deviance_meaning (Err r) = record { refusal = numbers_of r; value = none; no_scale = false; rust = none }

abbrev pub refusal_of : Result Deviance Refusal → Numbers
refusal_of a = (deviance_meaning a).refusal

abbrev pub is_finished : State → Bool
is_finished Idle = false
is_finished UnderWay = false
is_finished Finished = true

-- of a workspace with n doubles whose factor is finished: 20, 25
abbrev pub of_finished : {A : Type 0} → List ℕ → ℕ → Result A Refusal → Result A Refusal
of_finished h n a = pick (valid_heading h n) (pick (is_finished (progress_of h).state) a (Err (refusal 25 0 0))) (Err (refusal 20 0 0))

-- d = n (ML) or n - p (REML)
abbrev pub freedom : Layout → Bool → Float
freedom y reml = cond reml (ieee.minus (ieee.whole y.n) (ieee.whole y.p)) (ieee.whole y.n)

-- log determinant = 2 × sum
abbrev pub log_determinant : List ℕ → List Float → Float
log_determinant h w = ieee.times ieee.two (log_sum h w)

module _ (h : List ℕ) (w : List Float) (reml : Bool) where
  -- pivot r of block k
  abbrev pub last_block_pivot : ℕ → Float
  last_block_pivot r = cell_of (last_shape (layout_of h)) (working_block h w (layout_of h).k (layout_of h).k) r r

  -- r2 is the square of the response's pivot, the last; no scale where r2 or d is at most 0
  unfoldable pub deviance_value : Deviance
  deviance_value =
      let y = layout_of h in
      let r2 = ieee.times (last_block_pivot (response_row y)) (last_block_pivot (response_row y)) in
      let d = freedom y reml in
      pick (ieee.refused r2 || ieee.refused d) NoScale
      (Value (deviance_of ieee reml d (ieee.over r2 d) (log_determinant h w) last_block_pivot y.p))

  -- 20, 25
  unfoldable pub deviance_from_factor : Result Deviance Refusal
  unfolding valid_heading deviance_value
  deviance_from_factor = of_finished h (length w) (Ok deviance_value)

-- ---- `profile_deviance`
pub record Profiled : Type 0 where
  pub answer : Result Deviance Refusal
  pub left : Workspace

abbrev pub as_pivot : Refusal → Result Deviance Refusal
as_pivot r = let n = numbers_of r in Ok (Pivot n.first n.second)

-- after the steps: a refused pivot is the second answer, with what 26 leaves
abbrev pub after_steps : Result Unit Refusal → Outcome → Bool → Profiled
after_steps (Ok tt) o reml = record { answer = Ok (deviance_value o.left.heading o.left.doubles reml); left = o.left }
after_steps (Err r) o reml = record { answer = as_pivot r; left = o.left }

-- after begin: its refusals, 20, 13 and 14, are the call's
abbrev pub after_begin : Result Unit Refusal → Outcome → ℕ → Bool → Profiled
after_begin (Ok tt) o k reml = let all = run_of o.left (rust_order k) in after_steps all.answer all reml
after_begin (Err r) o k reml = record { answer = Err r; left = o.left }

unfoldable pub profile_of : List ℕ → List Float → List Float → Bool → Profiled
unfolding begin_of run_of deviance_value
profile_of h w theta reml = let o = begin_of h w theta in after_begin o.answer o (layout_of h).k reml

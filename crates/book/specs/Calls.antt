-- Lists of calls (mission, demand 3): each is given what the last left.
use Rattle.std.specs.Prelude.{Bool, List, [], ◌∷◌, Float, Result}
use Rattle.step_order.specs.Steps.{Step}
use Rattle.refusal.specs.declared.Refusal.{Refusal}
use Rattle.workspace.specs.Memory.{Workspace}
use Rattle.refusal.specs.declared.Numbers.{Numbers}
use Rattle.refusal.specs.Numbers as Tables
use Rattle.workspace.specs.Answers.{Outcome}
use Rattle.workspace.specs.Response.{Response, replace_of}
use Rattle.update.specs.Calls.{begin_of, step_of}
use Rattle.profile.specs.Deviance as Deviances
use Rattle.profile.specs.Deviance.{Profiled, profile_of}
use Rattle.profile.specs.declared.Deviance.{Deviance}

-- a call with its arguments, but for the workspace
pub data Call : Type 0 where
  begin : List Float → Call
  step : Step → Call
  replace_response : Response → Call
  -- theta, and whether the mode is REML
  profile_deviance : List Float → Bool → Call

-- what a call answers
pub data Reply : Type 0 where
  plain : Result Unit Refusal → Reply
  deviance : Result Deviance Refusal → Reply

-- its number and places
abbrev pub refusal_of : Reply → Numbers
refusal_of (plain a) = Tables.refusal_of a
refusal_of (deviance d) = Deviances.refusal_of d

-- a call's reply, and what it leaves
pub record Called : Type 0 where
  pub reply : Reply
  pub left : Workspace

abbrev pub outcome : Outcome → Called
outcome o = record { reply = plain o.answer; left = o.left }

abbrev pub profiled : Profiled → Called
profiled o = record { reply = deviance o.answer; left = o.left }

abbrev pub called : Call → Workspace → Called
called (begin theta) v = outcome (begin_of v.heading v.doubles theta)
called (step s) v = outcome (step_of v.heading v.doubles s)
called (replace_response r) v = outcome (replace_of v.heading v.doubles r)
called (profile_deviance theta reml) v = profiled (profile_of v.heading v.doubles theta reml)

-- the replies of a list of calls, and what the last one leaves
unfoldable pub replies : List Call → Workspace → List Reply
replies [] v = []
replies (c ∷ l) v = (called c v).reply ∷ replies l (called c v).left

unfoldable pub left_by : List Call → Workspace → Workspace
left_by [] v = v
left_by (c ∷ l) v = left_by l (called c v).left

-- What each function of include/huskcanyon.h tells and leaves. The boundary's own refusals come first and leave all as it was: 100 where the answer list is too
-- short, 101 where there is no such mode, 102 where there is no such kind of step, 103 where the list of words is not as long as the result list.
use Rattle.std.specs.Prelude.{ℕ, Bool, ◌||◌, cond, not, List, map, eqb, ltb, length, Float}
use Rattle.step_order.specs.Steps.{Step, S, C, T}
use Rattle.layout.specs.Shapes.{pick}
use Rattle.refusal.specs.Numbers.{meaning}
use Rattle.workspace.specs.Memory.{Workspace}
use Rattle.workspace.specs.Answers.{Outcome, workspace}
use Rattle.workspace.specs.Load.{load_of}
use Rattle.workspace.specs.Response.{Response, replace_of}
use Rattle.update.specs.Calls.{begin_of, step_of}
use Rattle.profile.specs.Deviance.{Profiled, deviance_meaning, deviance_from_factor, profile_of}
use Rattle.profile.specs.Finish.{Solving, solve_meaning, solve_of}
use Rattle.load.specs.room.Needs.{needs_meaning, needs_of}
use Rattle.views.specs.Views.{steps_meaning, value_meaning, view_meaning, steps_left_of, determinant_of, pivot_of}
use Rattle.capi.specs.Told.{Told, leaves, word_of, told_answer, told_deviance, told_solve, told_needs, told_steps, told_view}

-- ---- the boundary's tests
abbrev pub shorter : List ℕ → ℕ → Bool
shorter answer n = ltb (length answer) n

-- 0 is ML, 1 is REML
abbrev pub no_mode : ℕ → Bool
no_mode mode = ltb 1 mode

abbrev pub is_reml : ℕ → Bool
is_reml mode = eqb mode 1

-- 0 is S, 1 is C, 2 is T
abbrev pub no_kind : ℕ → Bool
no_kind kind = ltb 2 kind

abbrev pub step_named : ℕ → ℕ → ℕ → ℕ → Step
step_named kind i j h = cond (eqb kind 0) (S i j h) (cond (eqb kind 1) (C i) (T i j))

-- ---- the functions that may change the workspace
pub record Called : Type 0 where
  pub told : Told
  pub left : Workspace

abbrev pub called : ℕ → List ℕ → List ℕ → List Float → Called
called n answer h w = record { told = leaves n answer; left = workspace h w }

-- a call that gives no value
abbrev pub of_outcome : Outcome → List ℕ → Called
of_outcome o answer = record { told = told_answer (meaning o.answer) answer; left = o.left }

abbrev pub of_profiled : Profiled → List ℕ → Called
of_profiled o answer = record { told = told_deviance (deviance_meaning o.answer) answer; left = o.left }

abbrev pub load_call : List ℕ → List ℕ → List Float → List ℕ → Called
load_call sheet h w answer = pick (shorter answer 2) (called 100 answer h w) (of_outcome (load_of sheet h w) answer)

abbrev pub begin_call : List ℕ → List Float → List Float → List ℕ → Called
begin_call h w theta answer = pick (shorter answer 2) (called 100 answer h w) (of_outcome (begin_of h w theta) answer)

abbrev pub step_call : List ℕ → List Float → ℕ → ℕ → ℕ → ℕ → List ℕ → Called
step_call h w kind i j x answer =
    pick (shorter answer 2) (called 100 answer h w)
    (pick (no_kind kind) (called 102 answer h w) (of_outcome (step_of h w (step_named kind i j x)) answer))

abbrev pub replace_call : List ℕ → List Float → Response → List ℕ → Called
replace_call h w new answer = pick (shorter answer 2) (called 100 answer h w) (of_outcome (replace_of h w new) answer)

abbrev pub profile_call : List ℕ → List Float → List Float → ℕ → List ℕ → Called
profile_call h w theta mode answer =
    pick (shorter answer 5) (called 100 answer h w)
    (pick (no_mode mode) (called 101 answer h w) (of_profiled (profile_of h w theta (is_reml mode)) answer))

-- ---- the functions that only look
abbrev pub needs_call : List ℕ → List ℕ → Told
needs_call sheet answer = pick (shorter answer 4) (leaves 100 answer) (told_needs (needs_meaning (needs_of sheet)) answer)

abbrev pub deviance_call : List ℕ → List Float → ℕ → List ℕ → Told
deviance_call h w mode answer =
    pick (shorter answer 5) (leaves 100 answer)
    (pick (no_mode mode) (leaves 101 answer) (told_deviance (deviance_meaning (deviance_from_factor h w (is_reml mode))) answer))

abbrev pub steps_call : List ℕ → List ℕ → Told
steps_call h answer = pick (shorter answer 3) (leaves 100 answer) (told_steps (steps_meaning (steps_left_of h)) answer)

abbrev pub determinant_call : List ℕ → List Float → List ℕ → Told
determinant_call h w answer = pick (shorter answer 4) (leaves 100 answer) (told_view (value_meaning (determinant_of h w)) answer)

abbrev pub pivot_call : List ℕ → List Float → ℕ → ℕ → List ℕ → Told
pivot_call h w block row answer = pick (shorter answer 4) (leaves 100 answer) (told_view (view_meaning (pivot_of h w block row)) answer)

-- ---- the solution: the result list in which the solver works, and the list of its words
pub record Solved : Type 0 where
  pub told : Told
  pub out : List Float
  pub words : List ℕ

abbrev pub solved : ℕ → List ℕ → List Float → List ℕ → Solved
solved n answer out words = record { told = leaves n answer; out = out; words = words }

-- a solution and 27 write the result list, and so its words; 20, 25 and 13 leave both as they were
abbrev pub words_left : ℕ → List Float → List ℕ → List ℕ
words_left number result words = pick (eqb number 0 || eqb number 27) (map word_of result) words

abbrev pub of_solving : Solving → List ℕ → List ℕ → Solved
of_solving s words answer =
    let m = solve_meaning s.answer in
    record { told = told_solve m answer; out = s.result; words = words_left m.refusal.number s.result words }

abbrev pub solve_call : List ℕ → List Float → ℕ → List Float → List ℕ → List ℕ → Solved
solve_call h w mode out words answer =
    pick (shorter answer 4) (solved 100 answer out words)
    (pick (no_mode mode) (solved 101 answer out words)
    (pick (not (eqb (length words) (length out))) (solved 103 answer out words) (of_solving (solve_of h w (is_reml mode) out) words answer)))

-- Begin and the steps as functions of heading, doubles and arguments, refused ones included (document 01, Records 4 and 5, "Refused because of the state").
use Rattle.std.specs.Prelude.{ℕ, suc, ◌+◌, Bool, true, false, List, [], ◌∷◌, eqb, length, Float, Result, Ok, Err}
use Rattle.std.proofs.Math.Option.{Option, none, some}
use Rattle.storage.specs.Runs.{start, triangle}
use Rattle.storage.specs.Part.{store}
use Rattle.step_order.specs.Steps.{Step, S, C, T, row, col, index, is_step, forerunners}
use Rattle.step_order.specs.Progress.{all, done}
use Rattle.rules.specs.Arithmetic.{ieee}
use Rattle.heading_format.specs.declared.Progress.{Progress}
use Rattle.heading_format.specs.declared.State.{State}
use Rattle.heading_format.specs.declared.State.TheVariants.{Idle, UnderWay, Finished}
use Rattle.refusal.specs.Numbers.{refuse}
use Rattle.heading_format.specs.Marked.{marked}
use Rattle.layout.specs.Shapes.{Target, pick, targets, theta_at, working_at, sum_at, theta_length}
use Rattle.heading_format.specs.Heading.{layout_of, progress_of, stage_of, entry_row, valid_heading, idle, under_way}
use Rattle.workspace.specs.Memory.{Workspace, loaded_block, working_block, loaded_some, log_sum, heading_with, cleared}
use Rattle.workspace.specs.Answers.{Outcome, workspace, untouched, first_infinite, unless_at}
use Rattle.update.specs.Working.{rules_of, scaled}
use Rattle.refusal.specs.declared.Refusal.{Refusal}

-- ---- progress
-- one step more
abbrev pub advanced : Progress → Step → Progress
advanced g s = marked g (start triangle (row s) + col s) (suc (index s))

-- ---- begin
-- the working blocks, written one after the other
unfoldable pub store_scaled : List ℕ → List Float → (theta : List Float) → List Target → List Float → List Float
store_scaled h w theta [] v = v
store_scaled h w theta (b ∷ l) v =
    let y = layout_of h in
    store_scaled h w theta l
    (store (working_at y b.row b.col) (scaled y (entry_row h) (loaded_some h w) theta b.row b.col (loaded_block h w b.row b.col)) v)

-- theta kept, the blocks started, the sum +0.0; every step is left
unfoldable pub begun : List ℕ → List Float → List Float → Workspace
unfolding store_scaled
begun h w theta =
    let y = layout_of h in
    workspace (heading_with h (under_way y.k))
    (store (sum_at y) (ieee.zero ∷ []) (store_scaled h w theta (targets y.k) (store (theta_at y) theta w)))

-- 20, then 13, then 14
unfoldable pub begin_of : List ℕ → List Float → List Float → Outcome
unfolding valid_heading begun first_infinite
begin_of h w theta =
    pick (valid_heading h (length w))
    (pick (eqb (length theta) (theta_length (layout_of h)))
    (unless_at (first_infinite 0 theta) (λ i. untouched h w 14 0 i) (record { answer = Ok tt; left = begun h w theta }))
    (untouched h w 13 0 0))
    (untouched h w 20 0 0)

-- ---- a step
abbrev pub is_under_way : State → Bool
is_under_way Idle = false
is_under_way UnderWay = true
is_under_way Finished = false

module _ (h : List ℕ) (w : List Float) where
  -- what step s makes of its target and of the sum, out of the blocks as they are
  unfoldable pub made_by : Step → List Float
  made_by (S i j x) = (rules_of (layout_of h) (entry_row h) (loaded_some h w)).subtract i j x (working_block h w i j) (working_block h w i x) (working_block h w j x)
  made_by (C j) = (rules_of (layout_of h) (entry_row h) (loaded_some h w)).factor j (working_block h w j j)
  made_by (T i j) = (rules_of (layout_of h) (entry_row h) (loaded_some h w)).solve i j (working_block h w i j) (working_block h w j j)

  unfoldable pub sum_by : Step → Float
  unfolding made_by
  sum_by (S i j x) = log_sum h w
  sum_by (C j) = (rules_of (layout_of h) (entry_row h) (loaded_some h w)).logs j (log_sum h w) (made_by (C j))
  sum_by (T i j) = log_sum h w

  -- the row of the pivot that it refuses
  unfoldable pub refused_by : Step → Option ℕ
  refused_by (S i j x) = none
  refused_by (C j) = (rules_of (layout_of h) (entry_row h) (loaded_some h w)).pivots j (working_block h w j j)
  refused_by (T i j) = none

  -- an accepted step: its own block, the sum, the progress
  unfoldable pub stepped : Step → Workspace
  unfolding made_by sum_by
  stepped s =
      let y = layout_of h in
      workspace (heading_with h (advanced (progress_of h) s)) (store (sum_at y) (sum_by s ∷ []) (store (working_at y (row s) (col s)) (made_by s) w))

  -- 26: working doubles +0.0, progress none
  abbrev pub dropped : Workspace
  dropped = workspace (heading_with h (idle (layout_of h).k)) (cleared (layout_of h) w)

  abbrev pub on_pivot : Option ℕ → Step → Outcome
  on_pivot none s = record { answer = Ok tt; left = stepped s }
  on_pivot (some r) s = record { answer = refuse 26 (col s) r; left = dropped }

  -- 20, 22, 21, 23, 24, 26
  unfoldable pub step_of : Step → Outcome
  unfolding valid_heading refused_by stepped
  step_of s =
      let d = done (stage_of (progress_of h)) in
      pick (valid_heading h (length w))
      (pick (is_under_way (progress_of h).state)
      (pick (is_step (layout_of h).k s)
      (pick (d s) (untouched h w 23 0 0) (pick (all d (forerunners s)) (on_pivot (refused_by s) s) (untouched h w 24 0 0)))
      (untouched h w 21 0 0))
      (untouched h w 22 0 0))
      (untouched h w 20 0 0)

-- ---- steps in turn, to the end of the list or to the first that is not accepted
abbrev pub go_on : Result Unit Refusal → Outcome → (Workspace → Outcome) → Outcome
go_on (Ok tt) o next = next o.left
go_on (Err r) o next = o

unfoldable pub run_of : Workspace → List Step → Outcome
unfolding step_of
run_of v [] = record { answer = Ok tt; left = v }
run_of v (s ∷ l) =
    let o = step_of v.heading v.doubles s in
    go_on o.answer o (λ u. run_of u l)

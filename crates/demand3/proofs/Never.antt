-- 20 never comes: no call on a workspace whose heading is valid answers it.
use Prim.Native.Nat.{ℕ, suc}
use mathlib.Core.Path.{◌≡◌}
use mathlib.Core.Bool.{Bool, true, false, ◌||◌}
use mathlib.Core.List.{List, [], ◌∷◌}
use mathlib.Core.Option.{Option, none, some}
use native.Mathlib.Omega.{arith}
use lib.Dec.{eqb}
use lib.ListN.{length}
use lib.Ieee.{Float}
use Rattle.step_order.specs.Steps.{Step, is_step, forerunners, rust_order}
use Rattle.step_order.specs.Progress.{all, done}
use Rattle.rules.specs.Arithmetic.{ieee}
use Rattle.rules.specs.Finish.{deviance_of}
use Rattle.refusal.specs.declared.Refusal.{Refusal}
use Rattle.refusal.specs.Numbers as Numbers
use Rattle.refusal.specs.Numbers.{refuse}
use Rattle.layout.specs.Shapes.{pick}
use Rattle.heading_format.specs.Heading.{layout_of, progress_of, stage_of, valid_heading}
use Rattle.workspace.specs.Answers.{Outcome, unchanged, untouched, first_infinite, unless_at, unless_refused, lengths, length_fault, word_fault, first_of}
use Rattle.workspace.specs.Response.{Response, lists_of, response_lengths, replace_of, responded}
use Rattle.update.specs.Calls.{begun, begin_of, step_of, on_pivot, refused_by, is_under_way, run_of}
use Rattle.profile.specs.declared.Deviance.TheVariants.{Value, NoScale}
use Rattle.profile.specs.Deviance as Deviances
use Rattle.profile.specs.Deviance.{freedom, log_determinant, last_block_pivot, deviance_value, after_steps, after_begin, profile_of}
use Rattle.book.specs.Calls.{Call, begin, step, replace_response, profile_deviance, called, refusal_of}
use Rattle.std.specs.Prelude.{Result, Ok, Err}

-- an answer that is not 20
abbrev Other : Result Unit Refusal → Type 0
Other a = (Numbers.refusal_of a).number ≡ 20 → ⊥

-- a choice between two
other_pick : (b : Bool) (o p : Outcome) → Other o.answer → Other p.answer → Other (pick b o p).answer
other_pick true o p x y = x
other_pick false o p x y = y

other_unless : (i : Option ℕ) (bad : ℕ → Outcome) (good : Outcome) → ((n : ℕ) → Other (bad n).answer) → Other good.answer → Other (unless_at i bad good).answer
other_unless none bad good x y = y
other_unless (some n) bad good x y = x n

-- what is wrong with lists is 13 or 14
either_fault : (b : Bool) (f g : Result Unit Refusal) → Other f → Other g → Other (pick b f g)
either_fault true f g x y = x
either_fault false f g x y = y

first_other : (f g : Result Unit Refusal) → Other f → Other g → Other (first_of f g)
first_other (Ok tt) g x y = y
first_other (Err r) g x y = x

fault_other : (f : Result Unit Refusal) (h : List ℕ) (w : List Float) (good : Outcome) → Other f → Other good.answer → Other (unless_refused f (unchanged h w) good).answer
fault_other (Ok tt) h w good x y = y
fault_other (Err r) h w good x y = x

length_other : (i : ℕ) (prescribed actual : List ℕ) → Other (length_fault i prescribed actual)
unfolding length_fault
length_other i [] actual = λ e. omega arith
length_other i (n ∷ prescribed) [] = λ e. omega arith
length_other i (n ∷ prescribed) (m ∷ actual) = either_fault (eqb m n) _ _ (length_other (suc i) prescribed actual) (λ e. omega arith)

word_other : (i : ℕ) (lists : List (List Float)) → Other (word_fault i lists)
unfolding word_fault
word_other i [] = λ e. omega arith
word_other i (l ∷ lists) = go (first_infinite 0 l) (word_other (suc i) lists)
  where
    go : (o : Option ℕ) → Other (word_fault (suc i) lists) → Other (unless_at o (λ a. refuse 14 i a) (word_fault (suc i) lists))
    go none rest = rest
    go (some a) rest = λ e. omega arith

-- no scale, or a value
either_other : (b : Bool) (x : Float) → (Deviances.refusal_of (Ok (pick b NoScale (Value x)))).number ≡ 20 → ⊥
either_other true x e = omega arith
either_other false x e = omega arith

module _ (h : List ℕ) (w : List Float) (ok : valid_heading h (length w) ≡ true) where
  begin_other : (theta : List Float) → Other (begin_of h w theta).answer
  unfolding begin_of
  begin_other theta =
      rw ok
      (other_pick (eqb (length theta) (layout_of h).k) _ _
      (other_unless (first_infinite 0 theta) (λ i. untouched h w 14 0 i) (record { answer = Ok tt; left = begun h w theta }) (λ n e. omega arith) (λ e. omega arith)) (λ e. omega arith))

  pivot_other : (r : Option ℕ) (s : Step) → Other (on_pivot h w r s).answer
  pivot_other none s e = omega arith
  pivot_other (some r) s e = omega arith

  step_other : (s : Step) → Other (step_of h w s).answer
  unfolding step_of
  step_other s =
      rw ok
      (other_pick (is_under_way (progress_of h).state) _ _
      (other_pick (is_step (layout_of h).k s) _ _
      (other_pick (done (stage_of (progress_of h)) s) _ _ (λ e. omega arith)
      (other_pick (all (done (stage_of (progress_of h))) (forerunners s)) _ _ (pivot_other (refused_by h w s) s) (λ e. omega arith)))
      (λ e. omega arith))
      (λ e. omega arith))

  response_other : (r : Response) → Other (replace_of h w r).answer
  unfolding replace_of responded
  response_other r =
      let f = length_fault 0 (response_lengths (layout_of h)) (lengths (lists_of r)) in
      let g = word_fault 0 (lists_of r) in
      rw ok
      (fault_other (first_of f g) h w _ (first_other f g (length_other 0 (response_lengths (layout_of h)) (lengths (lists_of r))) (word_other 0 (lists_of r)))
      (λ e. omega arith))

  -- a deviance has no number of its own but 26
  value_other : (h : List ℕ) (w : List Float) (reml : Bool) → (Deviances.refusal_of (Ok (deviance_value h w reml))).number ≡ 20 → ⊥
  unfolding deviance_value
  value_other h w reml =
      let y = layout_of h in
      let last : Float = last_block_pivot h w reml y.p in
      let r2 : Float = ieee.times last last in
      either_other (ieee.refused r2 || ieee.refused (freedom y reml))
      (deviance_of ieee reml (freedom y reml) (ieee.over r2 (freedom y reml)) (log_determinant h w) (last_block_pivot h w reml) y.p)

  steps_other : (a : Result Unit Refusal) (o : Outcome) (reml : Bool) → (Deviances.refusal_of (after_steps a o reml).answer).number ≡ 20 → ⊥
  steps_other (Ok tt) o reml e = value_other o.left.heading o.left.doubles reml e
  steps_other (Err r) o reml e = omega arith

  after_other : (a : Result Unit Refusal) (o : Outcome) (k : ℕ) (reml : Bool) → Other a → (Deviances.refusal_of (after_begin a o k reml).answer).number ≡ 20 → ⊥
  after_other (Ok tt) o k reml x e = steps_other (run_of o.left (rust_order k)).answer (run_of o.left (rust_order k)) reml e
  after_other (Err r) o k reml x e = x e

  -- whatever is called
  pub call_other : (c : Call) → (refusal_of (called c (record { heading = h; doubles = w })).reply).number ≡ 20 → ⊥
  unfolding profile_of
  call_other (begin theta) e = begin_other theta e
  call_other (step s) e = step_other s e
  call_other (replace_response r) e = response_other r e
  call_other (profile_deviance theta reml) e = after_other (begin_of h w theta).answer (begin_of h w theta) (layout_of h).k reml (begin_other theta) e

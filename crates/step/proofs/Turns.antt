-- A step's refusals in turn: 20, 22, 21, 23, 24; else the step is ready.
use Prim.Native.Nat.{ℕ, suc, ◌≤◌}
use mathlib.Core.Path.{◌≡◌, refl, sym, ap₂, subst, ◌∙◌}
use mathlib.Core.Bool.{Bool, true, false, ◌&&◌, and-eq-true_iff}
use mathlib.Core.List.{List}
use native.Mathlib.Omega.{arith}
use lib.Dec.{eqb, leb}
use lib.ListN.{length}
use lib.Ieee.{Float}
use borrow.Author.Tests.{ltb-true}
use Rattle.refusal.specs.declared.Refusal.{Refusal}
use Rattle.refusal.specs.Numbers.{refusal, refuse}
use Rattle.refusal.proofs.Meaning.{differ}
use Rattle.step_order.specs.Steps.{Step, IsStep, is_step, forerunners, rust_order}
use Rattle.step_order.specs.Progress.{all, done, steps_left}
use Rattle.step_order.proofs.Sets.{named_iff}
use Rattle.layout.specs.declared.Layout.{Layout}
use Rattle.heading_format.specs.declared.Progress.{Progress}
use Rattle.heading_format.specs.declared.State.{State}
use Rattle.heading_format.specs.declared.State.TheVariants.{Idle, UnderWay, Finished}
use Rattle.layout.specs.Shapes.{pick}
use Rattle.heading_format.specs.Heading.{layout_of, progress_of, stage_of, valid_heading, every, forerunners_done, valid_state, valid_progress}
use Rattle.heading_format.proofs.Valid.{is_valid}
use Rattle.workspace.specs.Answers.{Outcome, workspace, unchanged, unless_refused}
use Rattle.update.specs.Calls.{is_under_way, refused_by, on_pivot, step_of}
use Rattle.heading_format.specs.Fits.{Fits}
use Rattle.heading_format.proofs.Fits.{fits}
use Rattle.step.specs.step_check.Faults.{name_fault, fault_of}
use Rattle.std.specs.Prelude.{Result, Ok, Err}

-- the tests in turn
turns : {A : Type 0} (bad : Refusal → A) (ready : A) (u n d f : Bool)
    → pick u (pick n (pick d (bad (refusal 23 0 0)) (pick f ready (bad (refusal 24 0 0)))) (bad (refusal 21 0 0))) (bad (refusal 22 0 0))
    ≡ unless_refused (pick u (name_fault n d f) (refuse 22 0 0)) bad ready
turns r a true true true f = refl
turns r a true true false true = refl
turns r a true true false false = refl
turns r a true false d f = refl
turns r a false n d f = refl

-- no refusal: all tests passed
all_passed : (u n d f : Bool) → pick u (name_fault n d f) (refuse 22 0 0) ≡ Ok tt → (u ≡ true) × (n ≡ true)
all_passed true true d f e = (refl, refl)
all_passed true false d f e = absurd (differ (sym e))
all_passed false n d f e = absurd (differ (sym e))

-- under way, a step is left
some_left : (s : State) (left every_step : ℕ) → is_under_way s ≡ true → valid_state s left every_step ≡ true → 1 ≤ left
some_left Idle left n e t = absurd (let z : ◌≡◌ {A = ℕ} 0 1 = cc in omega arith)
some_left UnderWay left n e t = let l = ltb-true 0 left t in omega arith
some_left Finished left n e t = absurd (let z : ◌≡◌ {A = ℕ} 0 1 = cc in omega arith)

last_test : (a b c d : Bool) → (a && b && c && d) ≡ true → d ≡ true
last_test a b c d e = ((and-eq-true_iff (a && b && c) d).0 e).1

left_valid : (k : ℕ) (g : Progress) → valid_progress k g ≡ true → is_under_way g.state ≡ true → 1 ≤ g.left
unfolding valid_progress
left_valid k g e u = some_left g.state g.left (length (rust_order k)) u
    (last_test (every (λ i. every (λ j. leb (stage_of g i j) (suc j)) (suc i)) (suc k)) (eqb g.left (steps_left k (done (stage_of g)))) (forerunners_done (stage_of g) (rust_order k))
    (valid_state g.state g.left (length (rust_order k))) e)

module _ (h : List ℕ) (w : List Float) (s : Step) where
  -- 20
  pub not_valid_heading : valid_heading h (length w) ≡ false → record { answer = Err (refusal 20 0 0); left = workspace h w } ≡ step_of h w s
  unfolding step_of
  not_valid_heading e = rw e refl

  module _ (ok : valid_heading h (length w) ≡ true) where
    in_turn_lem : step_of h w s ≡ unless_refused (fault_of (layout_of h).k (progress_of h) s) (unchanged h w) (on_pivot h w (refused_by h w s) s)
    unfolding step_of
    in_turn_lem =
        rw ok
        (turns (unchanged h w) (on_pivot h w (refused_by h w s) s) (is_under_way (progress_of h).state) (is_step (layout_of h).k s) (done (stage_of (progress_of h)) s)
        (all (done (stage_of (progress_of h))) (forerunners s)))

    pub few_blocks : (layout_of h).k ≤ 8
    few_blocks = (is_valid (layout_of h) (fits h (length w) ok).valid).blocks.1

    -- 22, 21, 23, 24
    pub name_refused : (r : Refusal) → Err r ≡ fault_of (layout_of h).k (progress_of h) s → record { answer = Err r; left = workspace h w } ≡ step_of h w s
    name_refused r is = sym (in_turn_lem ∙ rw (← is) refl)

    module _ (none : Ok tt ≡ fault_of (layout_of h).k (progress_of h) s) where
      passed : (is_under_way (progress_of h).state ≡ true) × (is_step (layout_of h).k s ≡ true)
      passed = all_passed (is_under_way (progress_of h).state) (is_step (layout_of h).k s) (done (stage_of (progress_of h)) s) (all (done (stage_of (progress_of h))) (forerunners s)) (sym none)

      -- the step is ready
      pub is_ready : Fits (layout_of h) h (length w) × IsStep (layout_of h).k s × (1 ≤ (progress_of h).left)
      is_ready =
          let f = fits h (length w) ok in
          (f, (named_iff (layout_of h).k s).0 passed.1, left_valid (layout_of h).k (progress_of h) f.progress passed.0)

      -- and taken
      pub accepted_step : (o : Outcome) → o ≡ on_pivot h w (refused_by h w s) s → o ≡ step_of h w s
      accepted_step o e = e ∙ sym (in_turn_lem ∙ rw (← none) refl)

-- what was read of the heading
pub fault_now : (h : List ℕ) (s : Step) {a : Result Unit Refusal} (y : Layout) (g : Progress) → y ≡ layout_of h → g ≡ progress_of h → a ≡ fault_of y.k g s
    → a ≡ fault_of (layout_of h).k (progress_of h) s
fault_now h s y g is_y is-g e = e ∙ ap₂ (λ (z : Layout) (x : Progress). fault_of z.k x s) is_y is-g

pub read_named : (h : List ℕ) (s : Step) (y : Layout) → y ≡ layout_of h → IsStep (layout_of h).k s → IsStep y.k s
read_named h s y is n = subst (λ (z : Layout). IsStep z.k s) (sym is) n

pub read_left : (h : List ℕ) (g : Progress) → g ≡ progress_of h → 1 ≤ (progress_of h).left → 1 ≤ g.left
read_left h g is n = subst (λ (z : Progress). 1 ≤ z.left) (sym is) n

-- The layout of a heading stays through begin and the steps: only the numbers of the progress are written. And what an accepted begin says.
use Prim.Native.Nat.{ℕ, ◌≤◌}
use mathlib.Core.Path.{◌≡◌, refl, sym, ap, ◌∙◌}
use mathlib.Core.Bool.{Bool, true, false, true≢false}
use mathlib.Core.List.{List, [], ◌∷◌}
use mathlib.Core.Option.{Option, none, some}
use lib.Dec.{eqb}
use lib.ListN.{length}
use lib.Ieee.{Float}
use borrow.Author.Tests.{eqb-true}
use Rattle.step_order.specs.Steps.{Step, is_step, forerunners}
use Rattle.step_order.specs.Progress.{all, done}
use Rattle.layout.specs.Shapes.{pick}
use Rattle.heading_format.specs.Heading.{layout_of, progress_of, stage_of, under_way, valid_heading}
use Rattle.heading_format.proofs.Fits.{fits}
use Rattle.update.proofs.progress_laws.Kept.{layout_kept}
use Rattle.workspace.specs.Memory.{Workspace, heading_with}
use Rattle.workspace.specs.Answers.{Outcome, untouched, unless_at, first_infinite}
use Rattle.update.specs.Calls.{begun, begin_of, is_under_way, refused_by, stepped, on_pivot, step_of, go_on, run_of}
use Rattle.heading_format.specs.Parts.{heading_length}
use Rattle.std.specs.Prelude.{Result, Ok, Err}
use Rattle.refusal.specs.declared.Refusal.{Refusal}

abbrev is_accepted : Result Unit Refusal → Bool
is_accepted (Ok tt) = true
is_accepted (Err r) = false

-- an outcome with the layout of h
abbrev Keeps : List ℕ → Outcome → Type 0
Keeps h o = layout_of o.left.heading ≡ layout_of h

keeps_pick : (h : List ℕ) (b : Bool) (x y : Outcome) → Keeps h x → Keeps h y → Keeps h (pick b x y)
keeps_pick h true x y p q = p
keeps_pick h false x y p q = q

module _ (h : List ℕ) (w : List Float) where
  -- a step
  step_kept : (s : Step) → Keeps h (step_of h w s)
  unfolding step_of stepped
  step_kept s = go (valid_heading h (length w)) refl
    where
      pivot : heading_length ≤ length h → (o : Option ℕ) → Keeps h (on_pivot h w o s)
      pivot long none = layout_kept h long _
      pivot long (some r) = layout_kept h long _

      go : (b : Bool) → valid_heading h (length w) ≡ b → Keeps h (step_of h w s)
      go true e =
          let d : Step → Bool = done (stage_of (progress_of h)) in
          rw e
          (keeps_pick h (is_under_way (progress_of h).state) _ _
          (keeps_pick h (is_step (layout_of h).k s) _ _
          (keeps_pick h (d s) _ _ refl (keeps_pick h (all d (forerunners s)) _ _ (pivot (fits h (length w) e).long (refused_by h w s)) refl)) refl) refl)
      go false e = rw e refl

  -- begin, by its tests
  module _ (theta : List Float) where
    abbrev begun_by : Bool → Bool → Option ℕ → Outcome
    begun_by x y i =
        pick x (pick y (unless_at i (λ i. untouched h w 14 0 i) (record { answer = Ok tt; left = begun h w theta })) (untouched h w 13 0 0)) (untouched h w 20 0 0)

    pub begin_kept : Keeps h (begin_of h w theta)
    unfolding begin_of begun
    begin_kept = go (valid_heading h (length w)) refl (eqb (length theta) (layout_of h).k) (first_infinite 0 theta)
      where
        go : (x : Bool) → valid_heading h (length w) ≡ x → (y : Bool) (i : Option ℕ) → Keeps h (begun_by x y i)
        go true e true none = layout_kept h (fits h (length w) e).long _
        go true e true (some i) = refl
        go true e false i = refl
        go false e y i = refl

    -- an accepted one is in a workspace, theta has a number for each of its blocks, and it writes the progress of an update just begun
    pub begin_accepted : (begin_of h w theta).answer ≡ (Ok tt)
        → (valid_heading h (length w) ≡ true) × (length theta ≡ (layout_of h).k) × ((begin_of h w theta).left.heading ≡ heading_with h (under_way (layout_of h).k))
    unfolding begin_of begun
    begin_accepted a = go (valid_heading h (length w)) refl (eqb (length theta) (layout_of h).k) refl (first_infinite 0 theta) (ap is_accepted a)
      where
        go : (x : Bool) → valid_heading h (length w) ≡ x → (y : Bool) → eqb (length theta) (layout_of h).k ≡ y → (i : Option ℕ) → is_accepted (begun_by x y i).answer ≡ true
            → (valid_heading h (length w) ≡ true) × (length theta ≡ (layout_of h).k) × ((begun_by x y i).left.heading ≡ heading_with h (under_way (layout_of h).k))
        go true p true r none t = (p, eqb-true _ _ r, refl)
        go true p true r (some i) t = absurd (true≢false (sym t))
        go true p false r i t = absurd (true≢false (sym t))
        go false p y r i t = absurd (true≢false (sym t))

-- steps in turn
pub run_kept : (v : Workspace) (l : List Step) → Keeps v.heading (run_of v l)
unfolding run_of
run_kept v [] = refl
run_kept v (s ∷ l) = go (λ u. run_kept u l) (step_of v.heading v.doubles s).answer
  where
    go : ((u : Workspace) → Keeps u.heading (run_of u l)) → (a : Result Unit Refusal)
        → Keeps v.heading (go_on a (step_of v.heading v.doubles s) (λ u. run_of u l))
    go rest (Ok tt) = rest (step_of v.heading v.doubles s).left ∙ step_kept v.heading v.doubles s
    go rest (Err r) = step_kept v.heading v.doubles s

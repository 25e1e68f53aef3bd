-- A step whose turn it is: it is ready, and behind it the next one is.
use Prim.Native.Nat.{ℕ, ◌+◌, ◌≤◌}
use mathlib.Core.Path.{◌≡◌, refl, sym, ap, ◌∙◌}
use mathlib.Core.Bool.{Bool, true, false, true≢false}
use mathlib.Core.List.{List, [], ◌∷◌, ◌++◌}
use mathlib.Core.Option.{Option, none, some}
use native.Mathlib.Omega.{arith}
use lib.Dec.{eqb}
use lib.ListN.{length}
use lib.Ieee.{Float}
use Rattle.storage.specs.Runs.{start, triangle}
use Rattle.storage.proofs.Parts.{length_part}
use Rattle.step_order.specs.Steps.{Step, IsStep, rust_order}
use Rattle.step_order.specs.Progress.{join, Order, done, Represents, Ready}
use Rattle.step_order.proofs.Sets.{named_iff, ready_after, represents_begun, represents_same}
use Rattle.step_order.proofs.Left.{left_moved}
use Rattle.step_order.proofs.Next.{rust_order_lem}
use Rattle.layout.specs.declared.Layout.{Layout}
use Rattle.heading_format.specs.declared.Progress.{Progress}
use Rattle.heading_format.specs.declared.State.TheVariants.{Idle, UnderWay}
use Rattle.heading_format.specs.Heading.{layout_of, progress_of, stage_of, under_way, valid_heading}
use Rattle.heading_format.proofs.Valid.{is_valid}
use Rattle.heading_format.proofs.Heading.{under_way_valid}
use Rattle.heading_format.specs.Fits.{Fits}
use Rattle.heading_format.proofs.Fits.{fits}
use Rattle.workspace.specs.Memory.{Workspace, heading_with}
use Rattle.workspace.specs.Answers.{Outcome}
use Rattle.update.specs.Calls.{advanced, refused_by, stepped, on_pivot, step_of}
use Rattle.update.proofs.progress_laws.Kept.{layout_kept, progress_read, valid_heading_with}
use Rattle.update.proofs.progress_laws.Moves.{stays_valid, state_law, under_way_lem, is_idle, never_idle, length_advanced, represents_advanced, valid_advanced}
use Rattle.profile_deviance.specs.ready_step.ReadyInTurn.{is_refused, ReadyInTurn}
use Rattle.storage.proofs.Cells.{default_at}
use Rattle.heading_format.specs.Parts.{stages_at, most_targets, heading_length}

stages_many : (h : List ℕ) → heading_length ≤ length h → length (progress_of h).stages ≡ most_targets
unfolding progress_of
stages_many h long = length_part stages_at most_targets h (omega arith)

-- a workspace whose layout and progress are known
known : (v : Workspace) (l : List Step) (y : Layout) (g : Progress) → layout_of v.heading ≡ y → progress_of v.heading ≡ g
    → valid_heading v.heading (length v.doubles) ≡ true → (g.state ≡ Idle → ⊥) → (d : Step → Bool) → Represents y.k (stage_of g) d → Order y.k d l → ReadyInTurn v l
known v l y g is_y is-g ok b d r o = record { valid = ok; begun = rw is-g b; set = d; stands = rw (is_y, is-g) r; order = rw is_y o }

module _ (v : Workspace) (s : Step) (l : List Step) (u : ReadyInTurn v (s ∷ l)) where
  abbrev h : List ℕ
  h = v.heading

  abbrev w : List Float
  w = v.doubles

  abbrev k : ℕ
  k = (layout_of h).k

  abbrev g : Progress
  g = progress_of h

  fit : Fits (layout_of h) h (length w)
  fit = fits h (length w) u.valid

  few : k ≤ 8
  few = (is_valid (layout_of h) fit.valid).blocks.1

  ready : Ready (stage_of g) s
  ready = (ready_after k (stage_of g) (stays_valid k g fit.progress).most u.set u.stands s u.order.0).1 (u.order.1, u.order.2)

  some_left : 1 ≤ g.left
  some_left = omega (arith, (stays_valid k g fit.progress).left, left_moved k (stage_of g) (stays_valid k g fit.progress).most s u.order.0 ready)

  going : g.state ≡ UnderWay
  going = under_way_lem g.state g.left (length (rust_order k)) u.begun (state_law k g fit.progress) some_left

  -- what taking it asks
  pub is_ready : Fits (layout_of h) h (length w) × IsStep k s × (1 ≤ g.left)
  is_ready = (fit, u.order.0, some_left)

  -- it is not refused for its name, nor as done, nor for a forerunner
  pub step_is : step_of h w s ≡ on_pivot h w (refused_by h w s) s
  unfolding step_of
  step_is =
      let n = (ready_after k (stage_of g) (stays_valid k g fit.progress).most (done (stage_of g)) (λ t m. refl) s u.order.0).0 ready in
      rw (u.valid, going, (named_iff k s).1 u.order.0, n.0, n.1) refl

  -- where it is accepted, the next one's turn comes
  moved : (v' : Workspace) → v'.heading ≡ heading_with h (advanced g s) → length v'.doubles ≡ length w → ReadyInTurn v' l
  moved v' e q =
      let n : IsStep k s = u.order.0 in
      let many : length g.stages ≡ most_targets = stages_many h fit.long in
      let more : length (advanced g s).stages ≡ most_targets = length_advanced k few g many s n in
      known v' l (layout_of h) (advanced g s) (ap layout_of e ∙ layout_kept h fit.long (advanced g s)) (ap progress_of e ∙ progress_read h fit.long (advanced g s) more)
      (rw (e, q) (valid_heading_with h (length w) u.valid (advanced g s) more (valid_advanced k few g many s n fit.progress going ready)))
      (never_idle (eqb g.left 1)) (join u.set s)
      (represents_advanced k few g many s n u.set (stays_valid k g fit.progress).most u.stands ready)
      u.order.3

  pub step_next : (o : Outcome) → o ≡ on_pivot h w (refused_by h w s) s → length o.left.doubles ≡ length w → is_refused o.answer ≡ false → ReadyInTurn o.left l
  unfolding stepped
  step_next o e q t = by (refused_by h w s) e
    where
      by : (p : Option ℕ) → o ≡ on_pivot h w p s → ReadyInTurn o.left l
      by none e = moved o.left (ap (λ (z : Outcome). z.left.heading) e) q
      by (some r) e = absurd (true≢false (ap (λ (z : Outcome). is_refused z.answer) (sym e) ∙ t))

-- ---- fewer steps
order_prefix : (k : ℕ) (d : Step → Bool) (a b : List Step) → Order k d (a ++ b) → Order k d a
order_prefix k d [] b o = tt
order_prefix k d (s ∷ a) b o = (o.0, o.1, o.2, order_prefix k (join d s) a b o.3)

pub prefix : (v : Workspace) (a b : List Step) → ReadyInTurn v (a ++ b) → ReadyInTurn v a
prefix v a b u = record { valid = u.valid; begun = u.begun; set = u.set; stands = u.stands; order = order_prefix (layout_of v.heading).k u.set a b u.order }

-- ---- the first
-- an update just begun
pub just_begun : (x : List ℕ) (v : Workspace) → valid_heading x (length v.doubles) ≡ true → v.heading ≡ heading_with x (under_way (layout_of x).k) → ReadyInTurn v (rust_order (layout_of v.heading).k)
just_begun x v ok e =
    let f = fits x (length v.doubles) ok in
    let n : ℕ = (layout_of x).k in
    let is_y : layout_of v.heading ≡ layout_of x = ap layout_of e ∙ layout_kept x f.long (under_way n) in
    known v (rust_order (layout_of v.heading).k) (layout_of x) (under_way n) is_y (ap progress_of e ∙ progress_read x f.long (under_way n) refl)
    (rw e (valid_heading_with x (length v.doubles) ok (under_way n) refl (under_way_valid n (is_valid (layout_of x) f.valid).blocks.1)))
    (λ z. true≢false (ap is_idle (sym z))) (λ s. false)
    (represents_same n (λ i j. 0) (stage_of (under_way n)) (λ s. false) (λ i j a b. sym (default_at {A = ℕ} 0 most_targets (start triangle i + j))) (represents_begun n))
    (rw is_y (rust_order_lem n))

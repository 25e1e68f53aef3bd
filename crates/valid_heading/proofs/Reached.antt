-- A progress passes the test of 20 exactly where it is none or an order of ready steps reaches it.
use Prim.Native.Nat.{ℕ, ◌≤◌}
use mathlib.Core.Path.{◌≡◌, refl, sym, ap, ◌∙◌}
use mathlib.Core.Logic.{◌↔◌}
use mathlib.Core.Bool.{Bool, true, false, cond, true≢false}
use mathlib.Core.List.{List, [], ◌∷◌}
use native.Mathlib.Omega.{arith}
use lib.Dec.{ltb, eqb}
use lib.ListN.{length}
use borrow.Author.Tests.{eqb-true}
use Rattle.step_order.specs.Steps.{Step, row, col, index, IsStep, rust_order}
use Rattle.step_order.specs.Progress.{join, join_all, Order, done, Represents, Ready}
use Rattle.step_order.proofs.Tables.{in_range}
use Rattle.step_order.proofs.Sets.{ready_after}
use Rattle.step_order.proofs.Left.{all_left, left_represents, left_moved}
use Rattle.step_order.proofs.Closed.{some_order, forerunners_same, same_stages}
use Rattle.heading_format.specs.declared.Progress.{Progress}
use Rattle.heading_format.specs.declared.State.{State}
use Rattle.heading_format.specs.declared.State.TheVariants.{Idle, UnderWay, Finished}
use Rattle.heading_format.specs.Parts.{most_targets}
use Rattle.heading_format.specs.Heading.{stage_of, valid_progress, idle, under_way}
use Rattle.heading_format.proofs.Heading.{idle_valid, under_way_valid}
use Rattle.update.specs.Calls.{advanced}
use Rattle.update.proofs.progress_laws.Moves.{stays_valid, stays_valid_after, valid_of, state_law, begun_state, under_way_lem, is_idle, never_idle, length_advanced, represents_advanced, valid_advanced}
use Rattle.valid_heading.specs.Reached.{SameProgress, progress_after, Reached, none_begun, by_order}

module _ (k : ℕ) where
  -- ---- a progress that says the same as a valid one is valid
  same_done : (g f : Progress) → SameProgress k g f → (s : Step) → IsStep k s → done (stage_of g) s ≡ done (stage_of f) s
  same_done g f e s n = let r = in_range k s n in ap (ltb (index s)) (e.stages (row s) (col s) r.1 r.2)

  valid_same : (g f : Progress) → SameProgress k g f → valid_progress k f ≡ true → valid_progress k g ≡ true
  valid_same g f e ok =
      let v = stays_valid k f ok in
      let same = same_done g f e in
      valid_of k g (λ i j l m. rw (e.stages i j l m) (v.most i j l m)) (e.left ∙ v.left ∙ left_represents k (stage_of g) (done (stage_of f)) (λ s n. sym (same s n)))
      (λ s n d. forerunners_same k (done (stage_of g)) (done (stage_of f)) same s n ∙ stays_valid_after k f ok s n (sym (same s n) ∙ d))
      (rw (e.state, e.left) (state_law k f ok))

  -- ---- valid ones of the same set and state say the same
  same_left : (g f : Progress) → valid_progress k g ≡ true → valid_progress k f ≡ true → Represents k (stage_of f) (done (stage_of g)) → g.left ≡ f.left
  same_left g f a b is = (stays_valid k g a).left ∙ left_represents k (stage_of f) (done (stage_of g)) is ∙ sym (stays_valid k f b).left

  same_progress : (g f : Progress) → valid_progress k g ≡ true → valid_progress k f ≡ true → Represents k (stage_of f) (done (stage_of g)) → g.state ≡ f.state → SameProgress k g f
  same_progress g f a b is e =
      record {
        state = e;
        left = same_left g f a b is;
        stages = same_stages k (stage_of g) (stage_of f) (stays_valid k g a).most (stays_valid k f b).most is;
      }

  -- with all steps left none is done
  none_done : (g : Progress) → valid_progress k g ≡ true → g.left ≡ length (rust_order k) → (s : Step) → IsStep k s → done (stage_of g) s ≡ false
  none_done g ok e = all_left k (done (stage_of g)) (sym (stays_valid k g ok).left ∙ e)

  module _ (few : k ≤ 8) where
    -- ---- the steps of an order
    -- a valid progress of an update that is begun, d being the set of its done steps
    abbrev Begun : Progress → (Step → Bool) → Type 0
    Begun g d = (valid_progress k g ≡ true) × (g.state ≡ Idle → ⊥) × Represents k (stage_of g) d

    -- each step of an order finds the update under way, and joins the set
    after_order : (l : List Step) (g : Progress) (d : Step → Bool) → length g.stages ≡ most_targets → Begun g d → Order k d l → Begun (progress_after g l) (join_all d l)
    unfolding progress_after
    after_order [] g d many b o = b
    after_order (s ∷ l) g d many b o =
        let v = stays_valid k g b.0 in
        let r : Ready (stage_of g) s = (ready_after k (stage_of g) v.most d b.2 s o.0).1 (o.1, o.2) in
        let some_left : 1 ≤ g.left = omega (arith, v.left, left_moved k (stage_of g) v.most s o.0 r) in
        let going : g.state ≡ UnderWay = under_way_lem g.state g.left (length (rust_order k)) b.1 (state_law k g b.0) some_left in
        after_order l (advanced g s) (join d s) (length_advanced k few g many s o.0)
        (valid_advanced k few g many s o.0 b.0 going r, never_idle (eqb g.left 1), represents_advanced k few g many s o.0 d v.most b.2 r) o.3

    from_begun : (l : List Step) → Order k (λ s. false) l → Begun (progress_after (under_way k) l) (join_all (λ s. false) l)
    from_begun l =
        let ok = under_way_valid k few in
        after_order l (under_way k) (λ s. false) refl (ok, λ e. true≢false (ap is_idle (sym e)), λ s n. sym (none_done (under_way k) ok refl s n))

    -- ---- the two directions
    reached_valid : (g : Progress) → Reached k g → valid_progress k g ≡ true
    reached_valid g (none_begun e) = valid_same g (idle k) e (idle_valid k few)
    reached_valid g (by_order l o e) = valid_same g (progress_after (under_way k) l) e (from_begun l o).0

    -- none is the progress with no step done
    idle_reached : (g : Progress) → valid_progress k g ≡ true → g.state ≡ Idle → Reached k g
    idle_reached g ok e =
        let all : g.left ≡ length (rust_order k) = eqb-true g.left (length (rust_order k)) (rw e at (state_law k g ok)) in
        let none = idle_valid k few in
        none_begun (same_progress g (idle k) ok none (λ s n. none_done g ok all s n ∙ sym (none_done (idle k) none refl s n)) e)

    -- any other is reached by its done steps, as they follow in the Rust's order
    begun_reached : (g : Progress) → valid_progress k g ≡ true → (g.state ≡ Idle → ⊥) → Reached k g
    begun_reached g ok begun =
        let o = some_order k (done (stage_of g)) (stays_valid_after k g ok) in
        let f : Progress = progress_after (under_way k) o.0 in
        let a = from_begun o.0 o.1 in
        let is : Represents k (stage_of f) (done (stage_of g)) = λ s n. sym (o.2 s n) ∙ a.2 s n in
        by_order o.0 o.1
        (same_progress g f ok a.0 is
        (begun_state g.state g.left (length (rust_order k)) begun (state_law k g ok)
        ∙ ap (λ (x : ℕ). cond (eqb x 0) Finished UnderWay) (same_left g f ok a.0 is)
        ∙ sym (begun_state f.state f.left (length (rust_order k)) a.1 (state_law k f a.0))))

    valid_reached : (g : Progress) → valid_progress k g ≡ true → Reached k g
    valid_reached g ok = go g.state refl
      where
        go : (s : State) → g.state ≡ s → Reached k g
        go Idle e = idle_reached g ok e
        go UnderWay e = begun_reached g ok (λ i. true≢false (ap is_idle (sym i ∙ e)))
        go Finished e = begun_reached g ok (λ i. true≢false (ap is_idle (sym i ∙ e)))

-- The test passes exactly where the progress is none or reached.
pub progress_exactly : (k : ℕ) → k ≤ 8 → (g : Progress) → (valid_progress k g ≡ true) ↔ Reached k g
progress_exactly k few g = (valid_reached k few g, reached_valid k few g)

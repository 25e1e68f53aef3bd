-- What a ready step does to a progress: one stage, one step left fewer, and valid as before.
use Prim.Native.Nat.{ℕ, suc, ◌+◌, ◌-◌, ◌<◌, ◌≤◌}
use mathlib.Core.Path.{◌≡◌, refl, sym, ap, ap₂, ◌∙◌}
use mathlib.Core.Bool.{Bool, true, false, not, ◌&&◌, ◌||◌, cond, and-eq-true_iff, true≢false}
use mathlib.Core.Logic.{⊎_elim, by_cases}
use mathlib.Core.List.Memᴰ
use mathlib.Core.List.{List, [], ◌∷◌, ◌++◌, Memᴰ}
use native.Mathlib.Decide.{dec_lt}
use native.Mathlib.Nat.{mul-le-mul}
use native.Mathlib.Omega.{arith}
use lib.Dec.{leb, eqb}
use lib.ListN.{length, get_or, length-set}
use lib.Seq.{get_or-set_same, get_or-set_other}
use borrow.Author.Tests.{lt-ltb, le-leb, ltb-true, leb-true, eq-eqb, ne_eqb, eqb-true}
use Rattle.storage.specs.Runs.{start, triangle}
use Rattle.storage.proofs.Starts.{start_triangle, same_run, same_cell}
use Rattle.step_order.specs.Steps.{Step, IsStep, row, col, index, forerunners, rust_order}
use Rattle.step_order.specs.Progress.{all, join, steps_left, done, advance, Bounded, Ready, Represents}
use Rattle.step_order.proofs.Tables.{at, put_here, put_else, in_range, step_unique}
use Rattle.step_order.proofs.Invariant.{bounded_moved}
use Rattle.step_order.proofs.Sets.{ready_after, represents_same, represents_moved}
use Rattle.step_order.proofs.Listing.{rust_named, rust_has}
use Rattle.step_order.proofs.Left.{left_moved, left_represents}
use Rattle.layout.specs.declared.Layout.{Layout}
use Rattle.heading_format.specs.declared.Progress.{Progress}
use Rattle.heading_format.specs.declared.State.{State}
use Rattle.heading_format.specs.declared.State.TheVariants.{Idle, UnderWay, Finished}
use Rattle.layout.specs.Shapes.{levels, doubles_needed}
use Rattle.heading_format.specs.Heading.{stage_of, written, every, forerunners_done, valid_state, valid_layout, valid_progress, valid_heading, numbers_needed}
use Rattle.heading_format.proofs.Valid.{both, unless, unless_at_lem, every_of, every_at}
use Rattle.heading_format.proofs.Heading.{never_20}
use Rattle.update.specs.Calls.{advanced}
use Rattle.step_order.proofs.Next.{all_grows}
use Rattle.heading_format.specs.Parts.{most_targets, heading_length}

-- ---- no step is done without its forerunners, as a fact
-- the test passes where it holds of every step of the list
forerun_of : (g : ℕ → ℕ → ℕ) (l : List Step) → ((s : Step) → Memᴰ s l → done g s ≡ true → all (done g) (forerunners s) ≡ true) → forerunners_done g l ≡ true
forerun_of g [] h = refl
forerun_of g (s ∷ l) h =
    both (not (done g s) || all (done g) (forerunners s)) (forerunners_done g l) (unless (done g s) (all (done g) (forerunners s)) (h s (Memᴰ.head refl)))
    (forerun_of g l (λ t m. h t (Memᴰ.tail m)))

-- and where it passes, it holds of every step
forerun_at : (g : ℕ → ℕ → ℕ) (l : List Step) → forerunners_done g l ≡ true → (s : Step) → Memᴰ s l → done g s ≡ true → all (done g) (forerunners s) ≡ true
forerun_at g [] e s m = absurd (Memᴰ.not-nil m)
forerun_at g (t ∷ l) e s m =
    let k = (and-eq-true_iff (not (done g t) || all (done g) (forerunners t)) (forerunners_done g l)).0 e in
    ⊎_elim (λ q. rw q (unless_at_lem (done g t) (all (done g) (forerunners t)) k.0)) (forerun_at g l k.1 s) (Memᴰ.cases_cons m)

-- ---- a valid progress, taken apart
pub record StaysValid (k : ℕ) (g : Progress) : Type 0 where
  pub most : Bounded k (stage_of g)
  pub left : g.left ≡ steps_left k (done (stage_of g))

-- the parts of a true conjunction
four : (a b c d : Bool) → (a && b && c && d) ≡ true → (a ≡ true) × (b ≡ true) × (c ≡ true) × (d ≡ true)
four a b c d t =
    let t₃ = (and-eq-true_iff (a && b && c) d).0 t in
    let t₂ = (and-eq-true_iff (a && b) c).0 t₃.0 in
    let t₁ = (and-eq-true_iff a b).0 t₂.0 in
    (t₁.0, t₁.1, t₂.1, t₃.1)

-- the bound of every stage, as a test
abbrev bounded : ℕ → Progress → Bool
bounded k g = every (λ i. every (λ j. leb (stage_of g i j) (suc j)) (suc i)) (suc k)

-- the four tests of a valid progress
tests : (k : ℕ) (g : Progress) → valid_progress k g ≡ true
    → (bounded k g ≡ true) × (eqb g.left (steps_left k (done (stage_of g))) ≡ true) × (forerunners_done (stage_of g) (rust_order k) ≡ true) × (valid_state g.state g.left (length (rust_order k)) ≡ true)
unfolding valid_progress
tests k g = four (bounded k g) (eqb g.left (steps_left k (done (stage_of g)))) (forerunners_done (stage_of g) (rust_order k)) (valid_state g.state g.left (length (rust_order k)))

-- no stage is past its target's last step, and the steps left are those outside the set
pub stays_valid : (k : ℕ) (g : Progress) → valid_progress k g ≡ true → StaysValid k g
stays_valid k g e =
    let t = tests k g e in
    record {
      most =
          λ i j l m.
          leb-true (stage_of g i j) (suc j)
          (every_at (λ c. leb (stage_of g i c) (suc c)) (suc i) (every_at (λ r. every (λ c. leb (stage_of g r c) (suc c)) (suc r)) (suc k) t.0 i (omega arith)) j (omega arith));
      left = eqb-true g.left (steps_left k (done (stage_of g))) t.1;
    }

-- every done step of a valid progress has its forerunners done
pub stays_valid_after : (k : ℕ) (g : Progress) → valid_progress k g ≡ true → (s : Step) → IsStep k s → done (stage_of g) s ≡ true → all (done (stage_of g)) (forerunners s) ≡ true
stays_valid_after k g e s n = forerun_at (stage_of g) (rust_order k) (tests k g e).2 s (rust_has k s n)

-- and facts put together
pub valid_of : (k : ℕ) (g : Progress) → Bounded k (stage_of g) → g.left ≡ steps_left k (done (stage_of g))
    → ((s : Step) → IsStep k s → done (stage_of g) s ≡ true → all (done (stage_of g)) (forerunners s) ≡ true) → valid_state g.state g.left (length (rust_order k)) ≡ true → valid_progress k g ≡ true
unfolding valid_progress
valid_of k g most left fore state =
    both _ _
    (both _ _
    (both _ _
    (every_of (λ i. every (λ j. leb (stage_of g i j) (suc j)) (suc i)) (suc k)
    (λ i l. every_of (λ j. leb (stage_of g i j) (suc j)) (suc i) (λ j m. le-leb (stage_of g i j) (suc j) (most i j (omega arith) (omega arith)))))
    (eq-eqb g.left (steps_left k (done (stage_of g))) left))
    (forerun_of (stage_of g) (rust_order k) (λ s m. fore s (rust_named k s m))))
    state

-- ---- the state of a valid progress goes with the steps left
pub state_law : (k : ℕ) (g : Progress) → valid_progress k g ≡ true → valid_state g.state g.left (length (rust_order k)) ≡ true
state_law k g e = (tests k g e).3

-- an update that is begun is finished with no step left, and under way before
pub begun_state : (s : State) (left every_step : ℕ) → (s ≡ Idle → ⊥) → valid_state s left every_step ≡ true → s ≡ cond (eqb left 0) Finished UnderWay
begun_state Idle left every_step b e = absurd (b refl)
begun_state UnderWay left every_step b e = rw (ne_eqb left 0 (λ q. omega (arith, ltb-true 0 left e)))
begun_state Finished left every_step b e = rw e

-- so with a step left it is under way
pub under_way_lem : (s : State) (left every_step : ℕ) → (s ≡ Idle → ⊥) → valid_state s left every_step ≡ true → 1 ≤ left → s ≡ UnderWay
under_way_lem s left every_step b e h = begun_state s left every_step b e ∙ rw (ne_eqb left 0 (λ q. omega arith))

-- after a step it is not none
abbrev pub is_idle : State → Bool
is_idle Idle = true
is_idle UnderWay = false
is_idle Finished = false

pub never_idle : (b : Bool) → cond b Finished UnderWay ≡ Idle → ⊥
never_idle true e = true≢false (ap is_idle (sym e))
never_idle false e = true≢false (ap is_idle (sym e))

-- a state under way is valid after a step more: under way, or finished with the last
state_advanced : (s : State) (left every_step : ℕ) → s ≡ UnderWay → valid_state s left every_step ≡ true
    → (0 < left) × (valid_state (cond (eqb left 1) Finished UnderWay) (left - 1) every_step ≡ true)
state_advanced s left every_step u e =
    let going : 0 < left = ltb-true 0 left (rw u at e) in (
      going,
      by_cases (dec_lt 1 left) (λ m. rw (ne_eqb left 1 (λ q. omega arith)) (lt-ltb 0 (left - 1) (omega arith)))
          (λ m. let q : left ≡ 1 = omega arith in rw q refl),
    )

-- target (i, j) of nine rows at most has a stage
below_most : (i j : ℕ) → j ≤ i → i ≤ 8 → start triangle i + j < most_targets
below_most i j l m = let g : i + 1 ≤ 9 = omega arith in omega (arith, start_triangle i, mul-le-mul m g)

module _ (k : ℕ) (few : k ≤ 8) (g : Progress) (many : length g.stages ≡ most_targets) (s : Step) (n : IsStep k s) where
  -- its target has a stage
  pub place_below : start triangle (row s) + col s < most_targets
  place_below = below_most (row s) (col s) (in_range k s n).1 (omega (arith, in_range k s n))

  -- the stages stay as many
  pub length_advanced : length (advanced g s).stages ≡ most_targets
  length_advanced = length-set g.stages (start triangle (row s) + col s) (suc (index s)) ∙ many

  -- its stage alone moves
  pub stage_advanced : (i j : ℕ) → j ≤ i → i ≤ k → stage_of (advanced g s) i j ≡ advance (stage_of g) s i j
  stage_advanced i j l m =
      ⊎_elim
      (λ w. rw (w.0, w.1)
      (get_or-set_same g.stages (start triangle (row s) + col s) (suc (index s)) 0 (omega (arith, place_below))
      ∙ sym (put_here (stage_of g) (row s) (col s) (suc (index s)))))
      (λ w. get_or-set_other g.stages (start triangle (row s) + col s) (start triangle i + j) (suc (index s)) 0 (other w.1)
      ∙ sym (put_else (stage_of g) (row s) (col s) (suc (index s)) i j w.1))
      (at i j (row s) (col s))
    where
      other : (i ≡ row s → j ≡ col s → ⊥) → start triangle i + j ≡ start triangle (row s) + col s → ⊥
      other f e =
          let a : j < triangle i = omega arith in
          let b : col s < triangle (row s) = omega (arith, in_range k s n) in
          f (same_run triangle i j (row s) (col s) a b e) (same_cell triangle i j (row s) (col s) a b e)

  -- a ready step joins the set that the stages stand for
  pub represents_advanced : (d : Step → Bool) → Bounded k (stage_of g) → Represents k (stage_of g) d → Ready (stage_of g) s → Represents k (stage_of (advanced g s)) (join d s)
  represents_advanced d most is r =
      represents_same k (advance (stage_of g) s) (stage_of (advanced g s)) (join d s) (λ i j l m. sym (stage_advanced i j l m)) (represents_moved k (stage_of g) most d is s n r)

  -- no stage falls
  stage_rises : stage_of g (row s) (col s) ≡ index s → (i j : ℕ) → stage_of g i j ≤ stage_of (advanced g s) i j
  stage_rises r i j =
      ⊎_elim
      (λ w. let e : start triangle i + j ≡ start triangle (row s) + col s = w.0 in
      omega (
        arith,
        ap (λ (x : ℕ). get_or g.stages x 0) e,
        ap (λ (x : ℕ). get_or (advanced g s).stages x 0) e,
        get_or-set_same g.stages (start triangle (row s) + col s) (suc (index s)) 0 (omega (arith, place_below)),
      ))
      (λ w. omega (arith, get_or-set_other g.stages (start triangle (row s) + col s) (start triangle i + j) (suc (index s)) 0 (λ e. w.1 e refl)))
      (at (start triangle i + j) 0 (start triangle (row s) + col s) 0)

  -- a ready step of an update under way leaves a valid progress
  pub valid_advanced : valid_progress k g ≡ true → g.state ≡ UnderWay → Ready (stage_of g) s → valid_progress k (advanced g s) ≡ true
  valid_advanced e u r =
      let f = stays_valid k g e in
      let state = state_advanced g.state g.left (length (rust_order k)) u (tests k g e).3 in
      let d : Represents k (stage_of (advanced g s)) (done (advance (stage_of g) s)) =
      represents_same k (advance (stage_of g) s) (stage_of (advanced g s)) (done (advance (stage_of g) s)) (λ i j l m. sym (stage_advanced i j l m)) (λ t o. refl) in
      valid_of k (advanced g s)
      (λ i j l m. rw (stage_advanced i j l m) (bounded_moved k (stage_of g) f.most s n i j l m))
      (omega (arith, f.left, left_moved k (stage_of g) f.most s n r, left_represents k (stage_of (advanced g s)) (done (advance (stage_of g) s)) d))
      fore
      state.1
    where
      more : (t : Step) → done (stage_of g) t ≡ true → done (stage_of (advanced g s)) t ≡ true
      more t q = lt-ltb (index t) (stage_of (advanced g s) (row t) (col t)) (omega (arith, ltb-true (index t) (stage_of g (row t) (col t)) q, stage_rises r.0 (row t) (col t)))

      fore : (t : Step) → IsStep k t → done (stage_of (advanced g s)) t ≡ true → all (done (stage_of (advanced g s))) (forerunners t) ≡ true
      fore t o q =
          all_grows (done (stage_of g)) (done (stage_of (advanced g s))) more (forerunners t)
          (by_cases (dec_lt (index t) (stage_of g (row t) (col t))) (λ m. stays_valid_after k g e t o (lt-ltb (index t) (stage_of g (row t) (col t)) m)) (λ m. rw (new m) ((ready_after k (stage_of g) (stays_valid k g e).most (done (stage_of g)) (λ x y. refl) s n).0 r).1))
        where
          new : (index t < stage_of g (row t) (col t) → ⊥) → t ≡ s
          new m =
              let b : index t < advance (stage_of g) s (row t) (col t) =
              rw (stage_advanced (row t) (col t) (in_range k t o).1 (in_range k t o).2) at (ltb-true (index t) (stage_of (advanced g s) (row t) (col t)) q) in
              ⊎_elim
              (λ w. let c : index t < suc (index s) = rw (w.0, w.1, put_here (stage_of g) (row s) (col s) (suc (index s))) at b in
              let a : stage_of g (row t) (col t) ≡ stage_of g (row s) (col s) = ap₂ (stage_of g) w.0 w.1 in
              step_unique k t s o n w.0 w.1 (omega (arith, r.0)))
              (λ w. absurd (m (rw (put_else (stage_of g) (row s) (col s) (suc (index s)) (row t) (col t) w.1) at b)))
              (at (row t) (col t) (row s) (col s))

-- ---- a heading is never refused with 20 where layout and progress are valid, and numbers and doubles are enough
module _ (y : Layout) (valid-layout : valid_layout y ≡ true) (eight : length y.m ≡ 8) (eight' : length y.order ≡ 8)
    (rest : List ℕ) (numbers : numbers_needed y ≤ heading_length + length rest) (rows : y.sparse ≡ true → (c : ℕ) → c < levels y 0 → get_or rest c 0 < levels y 1)
    (g : Progress) (many : length g.stages ≡ most_targets) (valid_progress_lem : valid_progress y.k g ≡ true) where
  -- whatever number of doubles is lent, if they are enough
  pub valid_heading_written : (doubles : ℕ) → doubles_needed y ≤ doubles → valid_heading (written y g ++ rest) doubles ≡ true
  valid_heading_written doubles room =
      never_20 y g rest doubles valid-layout valid_progress_lem eight eight' many (λ s. (long y.sparse s numbers, rows s)) room
    where
      long : (b : Bool) → b ≡ true → heading_length + cond b (levels y 0) 0 ≤ heading_length + length rest → levels y 0 ≤ length rest
      long b e h = let z : heading_length + levels y 0 ≤ heading_length + length rest = rw e at h in omega arith

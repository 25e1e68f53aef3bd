-- The stages stand for the set of done steps: a step is ready by the stages exactly when it is not in the set and its forerunners are.
use Prim.Native.Nat.{ℕ, zero, suc, ◌≤◌, ◌<◌}
use mathlib.Core.Path.{◌≡◌, refl, sym, ap, ◌∙◌}
use mathlib.Core.Logic.{⊎_elim, by_cases, ◌↔◌}
use mathlib.Core.Bool.{Bool, true, false, ◌&&◌, and-true, and_comm}
use mathlib.Core.List.{List, [], ◌∷◌}
use native.Mathlib.Decide.{dec_lt}
use native.Mathlib.Omega.{arith}
use lib.Dec.{ltb, leb, eqb}
use borrow.Author.Tests.{lt-ltb, le-ltb, le-leb, eq-eqb, ne_eqb, eqb-true, ltb-true, ltb-false, leb-true}
use Rattle.step_order.specs.Steps.{Step, S, C, T, row, col, index, IsStep, is_step, forerunners}
use Rattle.step_order.specs.Elimination.{Rules}
use Rattle.step_order.specs.Progress.{all, join, join_all, Order, advance, done, Represents, Bounded, ready, Sources, Ready, State}
use Rattle.step_order.proofs.Tables.{at, put_here, join_all_lem, in_range, step_unique}
use Rattle.step_order.proofs.Invariant.{bounded_moved, Held}
use Rattle.step_order.proofs.RustOrder.{advance_all, Runs}

-- both parts of a true conjunction
pub both_true : (a b : Bool) → (a && b) ≡ true → (a ≡ true) × (b ≡ true)
both_true true b e = (refl, e)
both_true false b e = absurd (let z : ◌≡◌ {A = ℕ} 0 1 = cc in omega arith)

-- The test of a name is the fact.
pub named_iff : (k : ℕ) (s : Step) → (is_step k s ≡ true) ↔ IsStep k s
named_iff k (S i j h) = (
  λ e. let p = both_true (ltb h j) (leb j i && leb i k) e in
      let q = both_true (leb j i) (leb i k) p.1 in
      (ltb-true h j p.0, leb-true j i q.0, leb-true i k q.1),
  λ n. rw (lt-ltb h j n.0, le-leb j i n.1, le-leb i k n.2),
)
named_iff k (C j) = (leb-true j k, le-leb j k)
named_iff k (T i j) = (
  λ e. let p = both_true (ltb j i) (leb i k) e in (ltb-true j i p.0, leb-true i k p.1),
  λ n. rw (lt-ltb j i n.0, le-leb i k n.1),
)

-- The test of readiness is the fact.
pub ready_iff : (k : ℕ) (g : ℕ → ℕ → ℕ) (s : Step) → IsStep k s → (ready g s ≡ true) ↔ Ready g s
ready_iff k g (S i j h) n = (
  λ e. let p = both_true (eqb (g i j) h) (eqb (g i h) (suc h) && eqb (g j h) (suc h)) e in
      let q = both_true (eqb (g i h) (suc h)) (eqb (g j h) (suc h)) p.1 in
      (eqb-true (g i j) h p.0, (λ l. eqb-true (g i h) (suc h) q.0, λ l. eqb-true (g j h) (suc h) q.1)),
  λ r. rw (eq-eqb (g i j) h r.0, eq-eqb (g i h) (suc h) (r.1.0 n.0), eq-eqb (g j h) (suc h) (r.1.1 (omega arith))),
)
ready_iff k g (C j) n = (λ e. (eqb-true (g j j) j e, (λ l. absurd (omega arith), λ l. absurd (omega arith))), λ r. eq-eqb (g j j) j r.0)
ready_iff k g (T i j) n = (
  λ e. let p = both_true (eqb (g i j) j) (eqb (g j j) (suc j)) e in
      (eqb-true (g i j) j p.0, (λ l. absurd (omega arith), λ l. eqb-true (g j j) (suc j) p.1)),
  λ r. rw (eq-eqb (g i j) j r.0, eq-eqb (g j j) (suc j) (r.1.1 n.0)),
)

-- a stage that is at most x + 1
upto : (x g : ℕ) → g ≤ suc x → ltb x g ≡ eqb g (suc x)
upto x g l =
    by_cases (dec_lt x g) (λ m. rw (lt-ltb x g m, eq-eqb g (suc x) (omega arith)))
    (λ m. rw (le-ltb x g (omega arith), ne_eqb g (suc x) (λ e. omega arith)))

-- At the start no step is in the set.
pub represents_begun : (k : ℕ) → Represents k (λ i j. 0) (λ s. false)
represents_begun k s n = sym (le-ltb (index s) 0 (omega arith))

-- Only the stages of the lower triangle, up to k, count.
pub represents_same : (k : ℕ) (f g : ℕ → ℕ → ℕ) (d : Step → Bool) → ((i j : ℕ) → j ≤ i → i ≤ k → f i j ≡ g i j) → Represents k f d → Represents k g d
represents_same k f g d e is s n = is s n ∙ ap (ltb (index s)) (e (row s) (col s) (in_range k s n).1 (in_range k s n).2)

module _ (k : ℕ) (g : ℕ → ℕ → ℕ) (most : Bounded k g) (d : Step → Bool) (is : Represents k g d) where
  -- of an undone step, the forerunners' test is the test by the stages
  after_ready : (s : Step) → IsStep k s → done g s ≡ false → all d (forerunners s) ≡ ready g s
  after_ready (S i j zero) n e =
      let z : g i j ≡ 0 = omega (arith, ltb-false 0 (g i j) e) in
      rw (
        is (T i 0) (omega arith),
        is (T j 0) (omega arith),
        upto 0 (g i 0) (most i 0 (omega arith) (omega arith)),
        upto 0 (g j 0) (most j 0 (omega arith) (omega arith)),
        eq-eqb (g i j) 0 z,
        and-true,
      )
  after_ready (S i j (suc h)) n e =
      rw (
        is (S i j h) (omega arith),
        is (T i (suc h)) (omega arith),
        is (T j (suc h)) (omega arith),
        upto h (g i j) (ltb-false (suc h) (g i j) e),
        upto (suc h) (g i (suc h)) (most i (suc h) (omega arith) (omega arith)),
        upto (suc h) (g j (suc h)) (most j (suc h) (omega arith) (omega arith)),
        and-true,
      )
  after_ready (C zero) n e = sym (eq-eqb (g 0 0) 0 (omega (arith, ltb-false 0 (g 0 0) e)))
  after_ready (C (suc j)) n e =
      rw (is (S (suc j) (suc j) j) (omega arith), upto j (g (suc j) (suc j)) (ltb-false (suc j) (g (suc j) (suc j)) e), and-true)
  after_ready (T i zero) n e =
      let z : g i 0 ≡ 0 = omega (arith, ltb-false 0 (g i 0) e) in
      rw (is (C 0) (omega arith), upto 0 (g 0 0) (most 0 0 (omega arith) (omega arith)), eq-eqb (g i 0) 0 z, and-true)
  after_ready (T i (suc j)) n e =
      rw (
        is (C (suc j)) (omega arith),
        is (S i (suc j) j) (omega arith),
        upto (suc j) (g (suc j) (suc j)) (most (suc j) (suc j) (omega arith) (omega arith)),
        upto j (g i (suc j)) (ltb-false (suc j) (g i (suc j)) e),
        and-true,
      )
      (and_comm (eqb (g (suc j) (suc j)) (suc (suc j))) (eqb (g i (suc j)) (suc j)))

  -- A step is ready by the stages exactly when it is not in the set and its forerunners are.
  pub ready_after : (s : Step) → IsStep k s → Ready g s ↔ ((d s ≡ false) × (all d (forerunners s) ≡ true))
  ready_after s n = (
    λ r. let e : done g s ≡ false = le-ltb (index s) (g (row s) (col s)) (omega (arith, r.0)) in
        (is s n ∙ e, after_ready s n e ∙ (ready_iff k g s n).1 r),
    λ p. (ready_iff k g s n).0 (sym (after_ready s n (sym (is s n) ∙ p.0)) ∙ p.1),
  )

  -- A ready step that is done joins the set.
  pub represents_moved : (s : Step) → IsStep k s → Ready g s → Represents k (advance g s) (join d s)
  represents_moved s m r t n =
      join_all_lem (λ x. x ≡ done (advance g s) t) d s t
      (λ e. sym (here (ap row e) (ap col e) ∙ lt-ltb (index t) (suc (index s)) (omega (arith, ap index e))))
      (λ e. is t n
      ∙ ⊎_elim
      (λ w. let o : index t ≡ index s → ⊥ = λ z. e (step_unique k t s n m w.0 w.1 z) in
      sym (here w.0 w.1
      ∙ rw (w.0, w.1, r.0)
      (by_cases (dec_lt (index t) (index s))
      (λ l. rw (lt-ltb (index t) (index s) l, lt-ltb (index t) (suc (index s)) (omega arith)))
      (λ l. rw (le-ltb (index t) (index s) (omega arith), le-ltb (index t) (suc (index s)) (omega arith))))))
      (λ w. rw w.0)
      (at (row t) (col t) (row s) (col s)))
    where
      here : row t ≡ row s → col t ≡ col s → done (advance g s) t ≡ ltb (index t) (suc (index s))
      here x y = rw (x, y, put_here g (row s) (col s) (suc (index s)))

-- An order by the set is an order by the stages.
pub order_runs : (k : ℕ) (l : List Step) (g : ℕ → ℕ → ℕ) → Bounded k g → (d : Step → Bool) → Represents k g d → Order k d l ↔ Runs k g l
order_runs k [] g most d is = (λ o. tt, λ r. tt)
order_runs k (s ∷ l) g most d is = (
  λ o. let r = (ready_after k g most d is s o.0).1 (o.1, o.2) in
      (o.0, r, (order_runs k l (advance g s) (bounded_moved k g most s o.0) (join d s) (represents_moved k g most d is s o.0 r)).0 o.3),
  λ q. let p = (ready_after k g most d is s q.0).0 q.1 in
      (q.0, p.0, p.1, (order_runs k l (advance g s) (bounded_moved k g most s q.0) (join d s) (represents_moved k g most d is s q.0 q.1)).1 q.2),
)

-- After the steps of an order the stages stand for the set with these in it.
pub represents_after : (k : ℕ) (l : List Step) (g : ℕ → ℕ → ℕ) → Bounded k g → (d : Step → Bool) → Represents k g d → Runs k g l → Represents k (advance_all g l) (join_all d l)
represents_after k [] g most d is r = is
represents_after k (s ∷ l) g most d is r =
    represents_after k l (advance g s) (bounded_moved k g most s r.0) (join d s) (represents_moved k g most d is s r.0 r.1) r.2

-- In an update every done step's forerunners are done.
pub held_after : (R : Rules) (k : ℕ) (start : ℕ → ℕ → R.Block) (u : State R) → Held R k start u → (s : Step) → IsStep k s
    → done u.stage s ≡ true → all (done u.stage) (forerunners s) ≡ true
held_after R k start u H s n e = go u.stage s n (ltb-true (index s) (u.stage (row s) (col s)) e) (λ m. H.kept (row s) (col s) (index s) (in_range k s n).1 (in_range k s n).2 m)
  where
    go : (g : ℕ → ℕ → ℕ) (s : Step) → IsStep k s → index s < g (row s) (col s) → (index s < g (row s) (col s) → Sources g (row s) (col s) (index s)) → all (done g) (forerunners s) ≡ true
    go g (S i j zero) n m f = rw (lt-ltb 0 (g i 0) (omega (arith, (f m).0 n.0)), lt-ltb 0 (g j 0) (omega (arith, (f m).1 (omega arith))))
    go g (S i j (suc h)) n m f =
        rw (lt-ltb h (g i j) (omega arith), lt-ltb (suc h) (g i (suc h)) (omega (arith, (f m).0 n.0)), lt-ltb (suc h) (g j (suc h)) (omega (arith, (f m).1 (omega arith))))
    go g (C zero) n m f = refl
    go g (C (suc j)) n m f = rw (lt-ltb j (g (suc j) (suc j)) (omega arith))
    go g (T i zero) n m f = rw (lt-ltb 0 (g 0 0) (omega (arith, (f m).1 n.0)))
    go g (T i (suc j)) n m f = rw (lt-ltb (suc j) (g (suc j) (suc j)) (omega (arith, (f m).1 n.0)), lt-ltb j (g i (suc j)) (omega arith))

-- The order theorem: a ready step takes its block to the value of its next stage, whatever was done before it.
use Prim.Native.Nat.{ℕ, suc, ◌≤◌, ◌<◌}
use mathlib.Core.Path.{◌≡◌, refl, sym, ap, ap₂, ◌∙◌}
use mathlib.Core.Logic.{⊎_elim, ◌↔◌, ◌≢◌, by_cases}
use mathlib.Core.Option.{none}
use native.Mathlib.Decide.{dec_lt}
use native.Mathlib.Omega.{arith}
use borrow.Author.Tests.{lt-ltb, le-ltb, eq-eqb, ne_eqb}
use Rattle.step_order.specs.Steps.{Step, S, C, T, row, col, index, IsStep}
use Rattle.step_order.specs.Elimination.{Rules, column, value, final, total}
use Rattle.step_order.specs.Progress.{advance, Bounded, Sources, Ready, State, begun, made, summed, refused_now, moved}
use Rattle.step_order.proofs.Tables.{at, put_all, in_range}

-- Begin has at most the steps that there are, and a step keeps to that.
pub bounded_begun : (k : ℕ) → Bounded k (λ i j. 0)
bounded_begun k i j l m = omega arith

pub bounded_moved : (k : ℕ) (g : ℕ → ℕ → ℕ) → Bounded k g → (s : Step) → IsStep k s → Bounded k (advance g s)
bounded_moved k g most s n a b l m =
    put_all (λ (i j x : ℕ). x ≤ suc j) g (row s) (col s) (suc (index s)) a b (λ x y. omega (arith, in_range k s n)) (λ o. most a b l m)

-- The invariant of an update: every block is at the value of its stage, every done step was ready, and the C that are done are the first `count` of them, none with a refused pivot; the sum is theirs.
pub record Held (R : Rules) (k : ℕ) (start : ℕ → ℕ → R.Block) (u : State R) : Type 0 where
  pub most : Bounded k u.stage
  pub blocks : (i j : ℕ) → j ≤ i → i ≤ k → u.block i j ≡ value R start (u.stage i j) i j
  pub kept : (i j h : ℕ) → j ≤ i → i ≤ k → h < u.stage i j → Sources u.stage i j h
  pub count : ℕ
  pub few : count ≤ suc k
  pub counted : (j : ℕ) → j ≤ k → (j < count) ↔ (u.stage j j ≡ suc j)
  pub passed : (j : ℕ) → j < count → R.pivots j (value R start j j j) ≡ none
  pub summed : u.sum ≡ total R start count

module _ (R : Rules) (k : ℕ) (start : ℕ → ℕ → R.Block) where
  -- Begin has it.
  pub held_begun : Held R k start (begun R start)
  unfolding value total
  held_begun =
      record {
        most = bounded_begun k;
        blocks = λ i j a b. refl;
        kept = λ i j h a b c. absurd (omega arith);
        count = 0;
        few = omega arith;
        counted = λ j h. (λ l. absurd (omega arith), λ e. absurd (omega arith));
        passed = λ j l. absurd (omega arith);
        summed = refl;
      }

  -- a finished block is column h of round h
  pub finished : (i h : ℕ) → final R start i h ≡ column R h (value R start h) i
  unfolding value
  finished i h = rw (le-ltb h h (omega arith), eq-eqb h h refl)

  module _ (u : State R) (H : Held R k start u) where
    -- A block at stage x is the value of that stage.
    pub at_stage : (i j x : ℕ) → j ≤ i → i ≤ k → u.stage i j ≡ x → u.block i j ≡ value R start x i j
    at_stage i j x a b e = rw e at (H.blocks i j a b)

    -- A ready step takes its block to the value of its next stage.
    pub step_value : (s : Step) → IsStep k s → Ready u.stage s → made R s u ≡ value R start (suc (index s)) (row s) (col s)
    unfolding value
    step_value (S i j h) n r =
        rw (lt-ltb h j n.0)
        (cc (
          at_stage i j h n.1 n.2 r.0,
          at_stage i h (suc h) (omega arith) (omega arith) (r.1.0 n.0),
          finished i h,
          at_stage j h (suc h) (omega arith) (omega arith) (r.1.1 (omega arith)),
          finished j h,
        ))
    step_value (C j) n r = rw (le-ltb j j (omega arith), eq-eqb j j refl) (cc (at_stage j j j (omega arith) n r.0))
    step_value (T i j) n r =
        rw (le-ltb j j (omega arith), eq-eqb j j refl, ne_eqb i j (omega arith))
        (cc (
          at_stage i j j (omega arith) n.1 r.0,
          at_stage j j (suc j) (omega arith) (omega arith) (r.1.1 n.0),
          finished j j,
          eq-eqb j j refl,
        ))

    -- C(j) is ready when C(0), .., C(j - 1) are done and no other C is: the sum depends only on how many are done.
    pub forced : (j : ℕ) → j ≤ k → u.stage j j ≡ j → H.count ≡ j
    forced j n e =
        by_cases (dec_lt H.count j)
        (λ (l : H.count < j).
        let t : u.stage j H.count ≡ suc H.count = (H.kept j j H.count (omega arith) n (omega arith)).0 l in
        let c : u.stage H.count H.count ≡ suc H.count = (H.kept j H.count H.count (omega arith) n (omega arith)).1 l in
        absurd (omega (arith, (H.counted H.count (omega arith)).1 c)))
        (λ m. by_cases (dec_lt j H.count) (λ l. absurd (omega (arith, (H.counted j n).0 l))) (λ l. omega arith))

    module _ (s : Step) (n : IsStep k s) (r : Ready u.stage s) where
      -- what is finished stays so
      stays : (a b : ℕ) → u.stage a b ≡ suc b → (moved R s u).stage a b ≡ suc b
      stays a b e =
          ⊎_elim (λ w. absurd (omega (arith, in_range k s n, r.0, ap₂ u.stage w.0 w.1))) (λ w. rw w.0 e) (at a b (row s) (col s))

      kept_on : (a b h : ℕ) → b ≤ a → a ≤ k → h < (moved R s u).stage a b → Sources u.stage a b h
      kept_on a b h l m e =
          ⊎_elim
          (λ w. let d : h < suc (index s) = rw (w.0, w.1, eq-eqb (row s) (row s) refl, eq-eqb (col s) (col s) refl) at e in
          by_cases (dec_lt h (u.stage a b)) (H.kept a b h l m)
          (λ m. let q : h ≡ index s = omega (arith, ap₂ u.stage w.0 w.1, r.0) in rw (q, w.0, w.1) r.1))
          (λ w. H.kept a b h l m (rw w.0 at e))
          (at a b (row s) (col s))

    counts : Step → ℕ
    counts (S i j h) = H.count
    counts (C j) = suc H.count
    counts (T i j) = H.count

    counted_on : (s : Step) → IsStep k s → Ready u.stage s → (a : ℕ) → a ≤ k → (a < counts s) ↔ ((moved R s u).stage a a ≡ suc a)
    unfolding counts
    counted_on (S i j h) n r a l =
        ⊎_elim
        (λ w. rw (w.0, ← w.0, w.1, eq-eqb j j refl)
        (λ c. absurd (omega (arith, (H.counted a l).0 (omega arith), ap₂ u.stage w.0 w.1, r.0)), λ e. absurd (omega arith)))
        (λ w. rw w.0 (H.counted a l))
        (at a a i j)
    counted_on (C j) n r a l =
        ⊎_elim
        (λ w. rw (w.0, eq-eqb j j refl) (λ c. refl, λ e. omega (arith, forced j n r.0)))
        (λ w. rw w.0
        (λ c. (H.counted a l).0 (let d : a ≢ j = λ e. w.1 e e in omega (arith, forced j n r.0)), λ e. omega (arith, (H.counted a l).1 e)))
        (at a a j j)
    counted_on (T i j) n r a l = ⊎_elim (λ w. absurd (omega arith)) (λ w. rw w.0 (H.counted a l)) (at a a i j)

    few_on : (s : Step) → IsStep k s → Ready u.stage s → counts s ≤ suc k
    unfolding counts
    few_on (S i j h) n r = H.few
    few_on (C j) n r = omega (arith, forced j n r.0)
    few_on (T i j) n r = H.few

    passed_on : (s : Step) → IsStep k s → Ready u.stage s → refused_now R s u ≡ none → (a : ℕ) → a < counts s → R.pivots a (value R start a a a) ≡ none
    unfolding counts
    passed_on (S i j h) n r p a l = H.passed a l
    passed_on (C j) n r p a l =
        by_cases (dec_lt a H.count) (H.passed a)
        (λ m. let e : a ≡ j = omega (arith, forced j n r.0) in rw (e, ← (at_stage j j j (omega arith) n r.0)) p)
    passed_on (T i j) n r p a l = H.passed a l

    summed_on : (s : Step) → IsStep k s → Ready u.stage s → summed R s u ≡ total R start (counts s)
    unfolding counts total
    summed_on (S i j h) n r = H.summed
    summed_on (C j) n r = rw (forced j n r.0) (cc (step_value (C j) n r, H.summed, ap (total R start) (forced j n r.0)))
    summed_on (T i j) n r = H.summed

    -- A ready step that refuses no pivot keeps it.
    pub held_moved : (s : Step) → IsStep k s → Ready u.stage s → refused_now R s u ≡ none → Held R k start (moved R s u)
    held_moved s n r p =
        record {
          most = bounded_moved k u.stage H.most s n;
          blocks = λ a b l m. ⊎_elim (λ w. rw (w.0, w.1, eq-eqb (row s) (row s) refl, eq-eqb (col s) (col s) refl) (step_value s n r)) (λ w. rw w.0 (H.blocks a b l m)) (at a b (row s) (col s));
          kept = λ a b h l m e. let w = kept_on s n r a b h l m e in (λ x. stays s n r a h (w.0 x), λ x. stays s n r b h (w.1 x));
          count = counts s;
          few = few_on s n r;
          counted = counted_on s n r;
          passed = passed_on s n r p;
          summed = summed_on s n r;
        }

    -- When every step is done, the blocks are the working factor and the sum is that of all factors, whatever the order was; no pivot was refused.
    pub held_done : ((i j : ℕ) → j ≤ i → i ≤ k → u.stage i j ≡ suc j)
        → ((i j : ℕ) → j ≤ i → i ≤ k → u.block i j ≡ final R start i j) × (u.sum ≡ total R start (suc k)) × ((j : ℕ) → j ≤ k → R.pivots j (value R start j j j) ≡ none)
    held_done d =
        let e : H.count ≡ suc k = omega (arith, H.few, (H.counted k (omega arith)).1 (d k k (omega arith) (omega arith))) in
        (λ i j a b. at_stage i j (suc j) a b (d i j a b), H.summed ∙ ap (total R start) e, λ j l. H.passed j (omega arith))

  -- The invariant sees only the blocks of the lower triangle, up to k.
  pub held_same : (u v : State R) → ((i j : ℕ) → j ≤ i → i ≤ k → (u.stage i j ≡ v.stage i j) × (u.block i j ≡ v.block i j)) → u.sum ≡ v.sum → Held R k start u → Held R k start v
  held_same u v e q H =
      record {
        most = λ i j l m. rw (← (e i j l m).0) (H.most i j l m);
        blocks = λ i j l m. sym (e i j l m).1 ∙ H.blocks i j l m ∙ ap (λ (x : ℕ). value R start x i j) (e i j l m).0;
        kept = λ i j h l m x.
            let w = H.kept i j h l m (omega (arith, (e i j l m).0)) in
            let b : h ≤ j = omega (arith, H.most i j l m, (e i j l m).0) in
            (λ y. sym (e i h (omega arith) m).0 ∙ w.0 y, λ y. sym (e j h b (omega arith)).0 ∙ w.1 y);
        count = H.count;
        few = H.few;
        counted = λ j l. let d = (e j j (omega arith) l).0 in (λ x. sym d ∙ (H.counted j l).0 x, λ x. (H.counted j l).1 (d ∙ x));
        passed = H.passed;
        summed = sym q ∙ H.summed;
      }

  fewer : (u v : State R) (H : Held R k start u) (I : Held R k start v) → ((j : ℕ) → j ≤ k → u.stage j j ≡ suc j → v.stage j j ≡ suc j) → H.count ≤ I.count
  fewer u v H I h =
      by_cases (dec_lt I.count H.count)
      (λ l. let m : I.count ≤ k = omega (arith, H.few) in absurd (omega (arith, (I.counted I.count m).1 (h I.count m ((H.counted I.count m).0 l)))))
      (λ l. omega arith)

  -- The logarithms' sum depends only on which C are done.
  pub same_sum : (u v : State R) → Held R k start u → Held R k start v → ((j : ℕ) → j ≤ k → (u.stage j j ≡ suc j) ↔ (v.stage j j ≡ suc j)) → u.sum ≡ v.sum
  same_sum u v H I h =
      let e : H.count ≡ I.count = omega (arith, fewer u v H I (λ j l. (h j l).0), fewer v u I H (λ j l. (h j l).1)) in
      H.summed ∙ ap (total R start) e ∙ sym I.summed

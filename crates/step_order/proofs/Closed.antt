-- A set that has the forerunners of each of its steps is the set of some order: its steps, as they follow in the Rust's order. And stages are known by the
-- set that they stand for.
use Prim.Native.Nat.{ℕ, zero, suc, ◌≤◌, ◌<◌}
use mathlib.Core.Path.{◌≡◌, refl, sym, ap, ◌∙◌}
use mathlib.Core.Logic.{by_cases}
use mathlib.Core.Bool.{Bool, true, false, cond, ◌&&◌, and-false}
use mathlib.Core.List.{List, [], ◌∷◌}
use native.Mathlib.Decide.{dec_lt}
use native.Mathlib.Omega.{arith}
use borrow.Author.Tests.{lt-ltb, ltb-true}
use Rattle.step_order.specs.Steps.{Step, S, C, T, row, col, index, IsStep, forerunners, rust_order}
use Rattle.step_order.specs.Progress.{all, join, join_all, Order, done, Bounded}
use Rattle.step_order.proofs.Tables.{join_all_lem}
use Rattle.step_order.proofs.Sets.{both_true}
use Rattle.step_order.proofs.Left.{none_left}
use Rattle.step_order.proofs.Next.{rust_order_lem}
use Rattle.step_order.proofs.Theorems.{rust_complete}

-- ---- an order of a set's steps
-- the steps of the list that are in the set
abbrev only_in : (Step → Bool) → List Step → List Step
only_in d [] = []
only_in d (s ∷ l) = cond (d s) (s ∷ only_in d l) (only_in d l)

-- what is in two sets is in the set that they share
all_shared : (d e f : Step → Bool) → ((s : Step) → f s ≡ (e s && d s)) → (l : List Step) → all d l ≡ true → all e l ≡ true → all f l ≡ true
all_shared d e f h [] p q = refl
all_shared d e f h (s ∷ l) p q =
    let a = both_true (d s) (all d l) p in
    let b = both_true (e s) (all e l) q in
    rw (h s, a.0, b.0, all_shared d e f h l a.1 b.1)

module _ (k : ℕ) (d : Step → Bool) (closed : (s : Step) → IsStep k s → d s ≡ true → all d (forerunners s) ≡ true) where
  -- an order from e on, less the steps outside d: an order from what e and d share on, to what its last set and d share
  order_in : (l : List Step) (e f : Step → Bool) → Order k e l → ((t : Step) → f t ≡ (e t && d t))
      → Order k f (only_in d l) × ((t : Step) → join_all f (only_in d l) t ≡ (join_all e l t && d t))
  order_in [] e f o h = (tt, h)
  order_in (s ∷ l) e f o h = go (d s) refl (λ f'. order_in l (join e s) f' o.3)
    where
      Rest : (Step → Bool) → List Step → Type 0
      Rest f m = Order k f m × ((t : Step) → join_all f m t ≡ (join_all (join e s) l t && d t))

      with_s : d s ≡ true → (t : Step) → join f s t ≡ (join e s t && d t)
      with_s q t =
          join_all_lem (λ x. x ≡ (join e s t && d t)) f s t (λ z. join_all_lem (λ x. true ≡ (x && d t)) e s t (λ y. sym (ap d z ∙ q)) (λ n. absurd (n z)))
          (λ n. join_all_lem (λ x. f t ≡ (x && d t)) e s t (λ z. absurd (n z)) (λ y. h t))

      without_s : d s ≡ false → (t : Step) → f t ≡ (join e s t && d t)
      without_s q t =
          join_all_lem (λ x. f t ≡ (x && d t)) e s t (λ z. let w : d t ≡ false = ap d z ∙ q in h t ∙ ap (λ (x : Bool). e t && x) w ∙ and-false (e t) ∙ sym w) (λ n. h t)

      go : (b : Bool) → d s ≡ b → ((f' : Step → Bool) → ((t : Step) → f' t ≡ (join e s t && d t)) → Rest f' (only_in d l)) → Rest f (cond b (s ∷ only_in d l) (only_in d l))
      go true q rest =
          let r = rest (join f s) (with_s q) in
          let undone : f s ≡ false = h s ∙ ap (λ (x : Bool). x && d s) o.1 in
          ((o.0, undone, all_shared d e f h (forerunners s) (closed s o.0 q) o.2, r.0), r.1)
      go false q rest = rest f (without_s q)

  -- Some order ends with the set.
  pub some_order : (l : List Step) × Order k (λ s. false) l × ((s : Step) → IsStep k s → join_all (λ s. false) l s ≡ d s)
  some_order =
      let r = order_in (rust_order k) (λ s. false) (λ s. false) (rust_order_lem k) (λ t. refl) in
      (only_in d (rust_order k), r.0, λ s n. r.1 s ∙ ap (λ (x : Bool). x && d s) ((none_left k _).0 (rust_complete k).1 s n))

-- sets with the same steps have the same forerunners, since these are steps
pub forerunners_same : (k : ℕ) (d e : Step → Bool) → ((s : Step) → IsStep k s → d s ≡ e s) → (s : Step) → IsStep k s → all d (forerunners s) ≡ all e (forerunners s)
forerunners_same k d e h (S i j zero) n = rw (h (T i 0) (omega arith), h (T j 0) (omega arith))
forerunners_same k d e h (S i j (suc x)) n = rw (h (S i j x) (omega arith), h (T i (suc x)) (omega arith), h (T j (suc x)) (omega arith))
forerunners_same k d e h (C zero) n = refl
forerunners_same k d e h (C (suc j)) n = rw (h (S (suc j) (suc j) j) (omega arith))
forerunners_same k d e h (T i zero) n = rw (h (C 0) (omega arith))
forerunners_same k d e h (T i (suc j)) n = rw (h (C (suc j)) (omega arith), h (S i (suc j) j) (omega arith))

-- ---- stages by their set
-- block (i,j) has a step of every number up to j
numbered : (k i j h : ℕ) → j ≤ i → i ≤ k → h ≤ j → (s : Step) × IsStep k s × (row s ≡ i) × (col s ≡ j) × (index s ≡ h)
numbered k i j h l m n =
    by_cases (dec_lt h j) (λ x. (S i j h, (x, l, m), refl, refl, refl))
    (λ x. let q : j ≡ h = omega arith in
    by_cases (dec_lt j i) (λ y. (T i j, (y, m), refl, refl, q)) (λ y. let p : j ≡ i = omega arith in (C j, omega arith, p, refl, q)))

module _ (k : ℕ) where
  -- stages whose steps are all done by others are no further than those
  no_further : (g f : ℕ → ℕ → ℕ) → Bounded k g → ((s : Step) → IsStep k s → done g s ≡ true → done f s ≡ true) → (i j : ℕ) → j ≤ i → i ≤ k → g i j ≤ f i j
  no_further g f most h i j l m =
      by_cases (dec_lt (f i j) (g i j))
      (λ x. let s = numbered k i j (f i j) l m (omega (arith, most i j l m)) in
      absurd (ahead s.0 s.1 s.2 s.3 s.4 x)) (λ x. omega arith)
    where
      ahead : (s : Step) → IsStep k s → row s ≡ i → col s ≡ j → index s ≡ f i j → f i j < g i j → ⊥
      ahead s n a b c x =
          let y : index s < f (row s) (col s) = ltb-true (index s) (f (row s) (col s)) (h s n (lt-ltb (index s) (g (row s) (col s)) (rw (a, b) (omega arith)))) in
          let z : index s < f i j = rw (a, b) at y in
          omega arith

  -- Stages that stand for the same set are the same.
  pub same_stages : (g f : ℕ → ℕ → ℕ) → Bounded k g → Bounded k f → ((s : Step) → IsStep k s → done g s ≡ done f s) → (i j : ℕ) → j ≤ i → i ≤ k → g i j ≡ f i j
  same_stages g f a b h i j l m =
      omega (arith, no_further g f a (λ s n e. sym (h s n) ∙ e) i j l m, no_further f g b (λ s n e. h s n ∙ e) i j l m)

-- Steps left: all of them at the start, one less with each step, none exactly when every step is done. How many there are.
use Prim.Native.Nat.{ℕ, zero, suc, ◌+◌, ◌-◌, ◌*◌, ◌/◌, ◌≤◌}
use mathlib.Core.Path.{◌≡◌, refl, sym, ap, ◌∙◌}
use mathlib.Core.Logic.{◌⊎◌, inl, inr, ⊎_elim, ◌↔◌, by_cases}
use mathlib.Core.Bool.{Bool, true, false, cond}
use mathlib.Core.List.Memᴰ
use mathlib.Core.List.{List, [], ◌∷◌, ◌++◌, Memᴰ}
use native.Mathlib.Decide.{dec_lt}
use native.Mathlib.Nat.{zero-add, add-zero, div-eq_of_eq-mul_right}
use native.Mathlib.Omega.{arith}
use lib.ListN.{length, length-append}
use borrow.Author.Tests.{lt-ltb, ltb-true}
use Rattle.step_order.specs.Steps.{Step, S, C, T, row, col, index, IsStep, Distinct, each, subtractions, column_steps, rust_order, step_count}
use Rattle.step_order.specs.Progress.{join, join_all, outside, steps_left, Order, advance, done, Represents, Bounded, Ready}
use Rattle.step_order.proofs.Tables.{join_all_lem, in_range}
use Rattle.step_order.proofs.Sets.{ready_after, represents_moved}
use Rattle.step_order.proofs.Listing.{rust_has, rust_distinct, rust_named}

-- sets that agree on the steps of a list leave as many
pub outside_same : (d e : Step → Bool) (l : List Step) → ((s : Step) → Memᴰ s l → d s ≡ e s) → outside d l ≡ outside e l
outside_same d e [] h = refl
outside_same d e (s ∷ l) h = rw (h s (Memᴰ.head refl), outside_same d e l (λ t m. h t (Memᴰ.tail m)))

-- with no step in the set, the whole list
pub outside_none : (l : List Step) → outside (λ s. false) l ≡ length l
outside_none [] = refl
outside_none (s ∷ l) = ap suc (outside_none l)

-- at most the whole list
outside_most : (d : Step → Bool) (l : List Step) → outside d l ≤ length l
outside_most d [] = omega arith
outside_most d (s ∷ l) = go (d s) (outside_most d l)
  where
    go : (b : Bool) → outside d l ≤ length l → cond b (outside d l) (suc (outside d l)) ≤ suc (length l)
    go true h = omega arith
    go false h = omega arith

-- and that only with none of its steps in the set
outside_all : (d : Step → Bool) (l : List Step) → outside d l ≡ length l → (s : Step) → Memᴰ s l → d s ≡ false
outside_all d [] e s m = absurd (Memᴰ.not-nil m)
outside_all d (t ∷ l) e s m = go (d t) refl e (outside_all d l)
  where
    go : (b : Bool) → d t ≡ b → cond b (outside d l) (suc (outside d l)) ≡ suc (length l)
        → (outside d l ≡ length l → (s : Step) → Memᴰ s l → d s ≡ false) → d s ≡ false
    go true q e h = absurd (omega (arith, outside_most d l))
    go false q e h = ⊎_elim (λ x. ap d x ∙ q) (h (omega arith) s) (Memᴰ.cases_cons m)

-- a step of the list that joins the set
outside_join : (d : Step → Bool) (s : Step) → d s ≡ false → (l : List Step) → Distinct l → Memᴰ s l → outside d l ≡ suc (outside (join d s) l)
outside_join d s e [] u m = absurd (Memᴰ.not-nil m)
outside_join d s e (t ∷ l) u m =
    ⊎_elim
    (λ q. rw (← q, e, join_all_lem (λ x. x ≡ true) d s s (λ x. refl) (λ o. absurd (o refl)))
    (ap suc (outside_same d (join d s) l (λ x n. join_all_lem (λ y. d x ≡ y) d s x (λ z. absurd (u.0 (Memᴰ.cast (sym (z ∙ q)) n))) (λ o. refl)))))
    (λ n. go (outside_join d s e l u.1 n) (d t) (join d s t) (join_all_lem (λ y. d t ≡ y) d s t (λ z. absurd (u.0 (Memᴰ.cast z n))) (λ o. refl)))
    (Memᴰ.cases_cons m)
  where
    go : {x y : ℕ} → x ≡ suc y → (b c : Bool) → b ≡ c → cond b x (suc x) ≡ suc (cond c y (suc y))
    go e true c q = rw (← q) e
    go e false c q = rw (← q) (ap suc e)

-- nothing left outside, exactly when all are in the set
outside_zero : (d : Step → Bool) (l : List Step) → (outside d l ≡ 0) ↔ ((s : Step) → Memᴰ s l → d s ≡ true)
outside_zero d [] = (λ e s m. absurd (Memᴰ.not-nil m), λ h. refl)
outside_zero d (t ∷ l) = (
  λ e s m. go (outside_zero d l).0 (d t) refl e s (Memᴰ.cases_cons m),
  λ h. rw (h t (Memᴰ.head refl)) ((outside_zero d l).1 (λ s m. h s (Memᴰ.tail m))),
)
  where
    go : (outside d l ≡ 0 → (s : Step) → Memᴰ s l → d s ≡ true) → (b : Bool) → d t ≡ b
        → cond b (outside d l) (suc (outside d l)) ≡ 0 → (s : Step) → (s ≡ t) ⊎ Memᴰ s l → d s ≡ true
    go h true q e s (inl x) = rw (x, q)
    go h true q e s (inr m) = h e s m
    go h false q e s x = absurd (omega arith)

module _ (k : ℕ) where
  -- One less when a step joins the set.
  pub left_joins : (d : Step → Bool) (s : Step) → IsStep k s → d s ≡ false → steps_left k d ≡ suc (steps_left k (join d s))
  left_joins d s n e = outside_join d s e (rust_order k) (rust_distinct k) (rust_has k s n)

  -- None left exactly when every step is in the set.
  pub none_left : (d : Step → Bool) → (steps_left k d ≡ 0) ↔ ((s : Step) → IsStep k s → d s ≡ true)
  none_left d = (
    λ e s n. (outside_zero d (rust_order k)).0 e s (rust_has k s n),
    λ h. (outside_zero d (rust_order k)).1 (λ s m. h s (rust_named k s m)),
  )

  -- All left only when no step is in the set.
  pub all_left : (d : Step → Bool) → steps_left k d ≡ length (rust_order k) → (s : Step) → IsStep k s → d s ≡ false
  all_left d e s n = outside_all d (rust_order k) e s (rust_has k s n)

  -- Stages leave as many as the set that they stand for,
  pub left_represents : (g : ℕ → ℕ → ℕ) (d : Step → Bool) → Represents k g d → steps_left k d ≡ steps_left k (done g)
  left_represents g d is = outside_same d (done g) (rust_order k) (λ s m. is s (rust_named k s m))

  -- and so one less with each ready step.
  pub left_moved : (g : ℕ → ℕ → ℕ) → Bounded k g → (s : Step) → IsStep k s → Ready g s → steps_left k (done g) ≡ suc (steps_left k (done (advance g s)))
  left_moved g most s n r =
      let is : Represents k g (done g) = λ t m. refl in
      left_joins (done g) s n ((ready_after k g most (done g) is s n).0 r).0 ∙ ap suc (left_represents (advance g s) (join (done g) s) (represents_moved k g most (done g) is s n r))

  -- None left exactly when every block is finished.
  pub all_finished : (g : ℕ → ℕ → ℕ) → Bounded k g → (steps_left k (done g) ≡ 0) ↔ ((i j : ℕ) → j ≤ i → i ≤ k → g i j ≡ suc j)
  all_finished g most = (
    λ e i j l m. let h = (none_left (done g)).0 e in
        by_cases (dec_lt j i) (λ x. omega (arith, ltb-true j (g i j) (h (T i j) (x, m)), most i j l m))
        (λ x. let q : i ≡ j = omega arith in rw q (omega (arith, ltb-true j (g j j) (h (C j) (omega arith)), most j j (omega arith) (omega arith)))),
    λ h. (none_left (done g)).1
        (λ s n. let r = in_range k s n in lt-ltb (index s) (g (row s) (col s)) (omega (arith, h (row s) (col s) r.1 r.2))),
  )

  -- An order has as many steps as steps left fall by.
  pub left_after : (d : Step → Bool) (l : List Step) → Order k d l → steps_left k d ≡ length l + steps_left k (join_all d l)
  left_after d [] o = omega arith
  left_after d (s ∷ l) o = omega (arith, left_joins d s o.0 o.1, left_after (join d s) l o.3)

-- ---- how many there are

length_each : (f : ℕ → List Step) (c a n : ℕ) → ((i : ℕ) → length (f i) ≡ c) → length (each f a n) ≡ n * c
length_each f c a zero h = omega arith
length_each f c a (suc n) h = omega (arith, length-append (f a) (each f (suc a) n), h a, length_each f c (suc a) n h)

-- one list more, at the end
length_last : (f : ℕ → List Step) (a n : ℕ) → length (each f a (suc n)) ≡ length (each f a n) + length (f (a + n))
length_last f a zero = omega (arith, length-append (f a) [], ap (λ (x : ℕ). length (f x)) (add-zero a))
length_last f a (suc n) =
    let e : a + suc n ≡ suc a + n = omega arith in
    omega (
      arith,
      length-append (f a) (each f (suc a) (suc n)),
      length-append (f a) (each f (suc a) n),
      length_last f (suc a) n,
      ap (λ (x : ℕ). length (f x)) e,
    )

-- block (i,j) has j + 1 steps
length_block : (i j : ℕ) (s : Step) → length (subtractions i j ++ (s ∷ [])) ≡ suc j
length_block i j s = omega (arith, length-append (subtractions i j) (s ∷ []), length_each (λ h. S i j h ∷ []) 1 0 j (λ h. refl))

length_column : (k j : ℕ) → length (column_steps k j) ≡ suc (k - j) * suc j
length_column k j =
    omega (
      arith,
      length-append (subtractions j j ++ (C j ∷ [])) (each (λ i. subtractions i j ++ (T i j ∷ [])) (suc j) (k - j)),
      length_block j j (C j),
      length_each (λ i. subtractions i j ++ (T i j ∷ [])) (suc j) (suc j) (k - j) (λ i. length_block i j (T i j)),
    )

one_column : (n g x : ℕ) → 6 * x + 2 * (n * n * suc n) ≡ n * suc n * (3 * (n + g) + 5)
    → 6 * (x + suc g * suc n) + 2 * (suc n * suc n * suc (suc n)) ≡ suc n * suc (suc n) * (3 * (n + g) + 5)
one_column n g x e = omega arith

-- the steps of the first n columns
length_columns : (k n : ℕ) → n ≤ suc k → 6 * length (each (column_steps k) 0 n) + 2 * (n * n * suc n) ≡ n * suc n * (3 * k + 5)
length_columns k zero l = omega arith
length_columns k (suc n) l =
    let e : n + (k - n) ≡ k = omega arith in
    rw (length_last, zero-add, length_column) (rw e at (one_column n (k - n) (length (each (column_steps k) 0 n)) (rw e (length_columns k n (omega arith)))))

half : (k : ℕ) → (a : ℕ) × (2 * a ≡ k * suc k)
half zero = (0, refl)
half (suc k) = ((half k).0 + suc k, omega (arith, (half k).1))

sixth : (k : ℕ) → (b : ℕ) × (6 * b ≡ k * suc k * suc (suc k))
sixth zero = (0, refl)
sixth (suc k) = ((sixth k).0 + (half (suc k)).0, omega (arith, (sixth k).1, (half (suc k)).1))

count : (k x : ℕ) → 6 * x + 2 * (suc k * suc k * suc (suc k)) ≡ suc k * suc (suc k) * (3 * k + 5) → x ≡ step_count (suc k)
count k x e =
    let z : suc k - 1 ≡ k = omega arith in
    let p : suc k * k / 2 ≡ (half k).0 = div-eq_of_eq-mul_right (omega arith) (omega (arith, (half k).1)) in
    let q : k * suc k * (suc k + 1) / 6 ≡ (sixth k).0 = div-eq_of_eq-mul_right (omega arith) (omega (arith, (sixth k).1)) in
    rw (z, p, q) (omega (arith, (half k).1, (sixth k).1))

-- The Rust's order, and so every order that finishes, has Record 4's number of steps.
pub step_count_lem : (k : ℕ) → length (rust_order k) ≡ step_count (suc k)
unfolding rust_order
step_count_lem k = count k (length (rust_order k)) (length_columns k (suc k) (omega arith))

-- Right after begin all of them are left.
pub left_begun : (k : ℕ) → steps_left k (λ s. false) ≡ step_count (suc k)
left_begun k = outside_none (rust_order k) ∙ step_count_lem k

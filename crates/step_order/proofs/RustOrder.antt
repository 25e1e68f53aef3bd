-- The Rust's order is one of the orders: each step is ready when its turn comes, and at the end every block is finished.
use Prim.Native.Nat.{ℕ, zero, suc, ◌+◌, ◌-◌, ◌≤◌, ◌<◌}
use mathlib.Core.Path.{◌≡◌, refl, sym, subst, ◌∙◌}
use mathlib.Core.Logic.{by_cases}
use mathlib.Core.List.{List, [], ◌∷◌, ◌++◌}
use native.Mathlib.Decide.{dec_lt}
use native.Mathlib.Nat.{zero-add, add-zero, add-suc, suc-add}
use native.Mathlib.Omega.{arith}
use Rattle.step_order.specs.Steps.{Step, S, C, T, row, col, index, IsStep, each, subtractions, column_steps, rust_order}
use Rattle.step_order.specs.Progress.{put, advance, Sources, Ready}
use Rattle.step_order.proofs.Tables.{put_here, put_else}

-- the stages after the steps of a list
abbrev pub advance_all : (ℕ → ℕ → ℕ) → List Step → ℕ → ℕ → ℕ
advance_all g [] = g
advance_all g (s ∷ l) = advance_all (advance g s) l

-- each step of the list is ready by the stages when its turn comes
abbrev pub Runs : ℕ → (ℕ → ℕ → ℕ) → List Step → Type 0
Runs k g [] = Unit
Runs k g (s ∷ l) = IsStep k s × Ready g s × Runs k (advance g s) l

module _ (k : ℕ) where
  -- from stages with P the list runs, to stages with Q
  Takes : ((ℕ → ℕ → ℕ) → Type 0) → List Step → ((ℕ → ℕ → ℕ) → Type 0) → Type 0
  Takes P l Q = (g : ℕ → ℕ → ℕ) → P g → Runs k g l × Q (advance_all g l)

  then : (P Q X : (ℕ → ℕ → ℕ) → Type 0) (l m : List Step) → Takes P l Q → Takes Q m X → Takes P (l ++ m) X
  unfolding Takes
  then P Q X [] m a b g p = b g (a g p).1
  then P Q X (s ∷ l) m a b g p =
      let t = a g p in
      let h : ℕ → ℕ → ℕ = advance g s in
      let rest = then (λ f. f ≡ h) Q X l m (λ f e. subst (λ (x : ℕ → ℕ → ℕ). Runs k x l × Q (advance_all x l)) (sym e) (t.0.2, t.1)) b h refl in
      ((t.0.0, t.0.1, rest.0), rest.1)

  loop : (P : ℕ → (ℕ → ℕ → ℕ) → Type 0) (f : ℕ → List Step) (a n : ℕ)
      → ((i : ℕ) → a ≤ i → i < a + n → Takes (P i) (f i) (P (suc i))) → Takes (P a) (each f a n) (P (a + n))
  unfolding Takes
  loop P f a zero h = λ g p. (tt, rw add-zero p)
  loop P f a (suc n) h =
      then (P a) (P (suc a)) (P (a + suc n)) (f a) (each f (suc a) n) (h a (omega arith) (omega arith))
      (rw (add-suc, ← suc-add) (loop P f (suc a) n (λ i l m. h i (omega arith) (omega arith))))

  one : (P Q : (ℕ → ℕ → ℕ) → Type 0) (s : Step) → ((g : ℕ → ℕ → ℕ) → P g → IsStep k s × Ready g s × Q (advance g s)) → Takes P (s ∷ []) Q
  unfolding Takes
  one P Q s h g p = (((h g p).0, (h g p).1, tt), (h g p).2)

  -- h steps of block (i,j) are done, all of the columns before j and of the rows before i in column j, and nothing else
  record Reached (i j h : ℕ) (g : ℕ → ℕ → ℕ) : Type 0 where
    here : g i j ≡ h
    past : (a b : ℕ) → b ≤ a → a ≤ k → b < j → g a b ≡ suc b
    above : (a : ℕ) → j ≤ a → a < i → g a j ≡ suc j
    below : (a : ℕ) → i < a → g a j ≡ 0
    later : (a b : ℕ) → j < b → g a b ≡ 0

  counted : (i j h : ℕ) (g : ℕ → ℕ → ℕ) → Reached i j h g → Reached i j (suc h) (put g i j (suc h))
  counted i j h g r =
      record {
        here = put_here g i j (suc h);
        past = λ a b l m n. put_else g i j (suc h) a b (λ x y. omega arith) ∙ r.past a b l m n;
        above = λ a l m. put_else g i j (suc h) a j (λ x y. omega arith) ∙ r.above a l m;
        below = λ a l. put_else g i j (suc h) a j (λ x y. omega arith) ∙ r.below a l;
        later = λ a b l. put_else g i j (suc h) a b (λ x y. omega arith) ∙ r.later a b l;
      }

  sources : (i j h : ℕ) (g : ℕ → ℕ → ℕ) → Reached i j h g → h ≤ j → j ≤ i → i ≤ k → Sources g i j h
  sources i j h g r l m n = (
    λ x. r.past i h (omega arith) n x,
    λ x. by_cases (dec_lt h j) (r.past j h l (omega arith)) (λ y. let e : h ≡ j = omega arith in rw e (r.above j (omega arith) (omega arith))),
  )

  next_row : (i j : ℕ) (g : ℕ → ℕ → ℕ) → Reached i j (suc j) g → Reached (suc i) j 0 g
  next_row i j g r =
      record {
        here = r.below (suc i) (omega arith);
        past = r.past;
        above = λ a l m. by_cases (dec_lt a i) (r.above a l) (λ y. let e : a ≡ i = omega arith in rw e r.here);
        below = λ a l. r.below a (omega arith);
        later = r.later;
      }

  next_column : (j : ℕ) (g : ℕ → ℕ → ℕ) → Reached (suc k) j 0 g → Reached (suc j) (suc j) 0 g
  next_column j g r =
      record {
        here = r.later (suc j) (suc j) (omega arith);
        past = λ a b l m n. by_cases (dec_lt b j) (r.past a b l m) (λ y. let e : b ≡ j = omega arith in rw e (r.above a (omega arith) (omega arith)));
        above = λ a l m. absurd (omega arith);
        below = λ a l. r.later a (suc j) (omega arith);
        later = λ a b l. r.later a b (omega arith);
      }

  -- all steps of block (i,j), the last being s
  block : (i j : ℕ) (s : Step) → j ≤ i → i ≤ k → IsStep k s → row s ≡ i → col s ≡ j → index s ≡ j
      → Takes (Reached i j 0) (subtractions i j ++ (s ∷ [])) (Reached (suc i) j 0)
  block i j s l m n x y z =
      then (Reached i j 0) (Reached i j j) (Reached (suc i) j 0) (subtractions i j) (s ∷ [])
      (rw zero-add at
      (loop (λ h. Reached i j h) (λ h. S i j h ∷ []) 0 j
      (λ h x y. one (Reached i j h) (Reached i j (suc h)) (S i j h)
      (λ g r. ((omega arith, l, m), (r.here, sources i j h g r (omega arith) l m), counted i j h g r)))))
      (one (Reached i j j) (Reached (suc i) j 0) s
      (λ g r. (n, rw (x, y, z) ((r.here, sources i j j g r (omega arith) l m)), rw (x, y, z) (next_row i j _ (counted i j j g r)))))

  a_column : (j : ℕ) → j ≤ k → Takes (Reached j j 0) (column_steps k j) (Reached (suc j) (suc j) 0)
  unfolding Takes
  a_column j m g p =
      let e : suc j + (k - j) ≡ suc k = omega arith in
      let t =
      then (Reached j j 0) (Reached (suc j) j 0) (Reached (suc j + (k - j)) j 0) (subtractions j j ++ (C j ∷ []))
      (each (λ i. subtractions i j ++ (T i j ∷ [])) (suc j) (k - j)) (block j j (C j) (omega arith) m m refl refl refl)
      (loop (λ i. Reached i j 0) (λ i. subtractions i j ++ (T i j ∷ [])) (suc j) (k - j)
      (λ i x y. block i j (T i j) (omega arith) (omega arith) (omega arith) refl refl refl)) g p in
      (t.0, next_column j _ (rw e at t.1))

  whole : Runs k (λ a b. 0) (rust_order k) × Reached (suc k) (suc k) 0 (advance_all (λ a b. 0) (rust_order k))
  unfolding Takes rust_order
  whole =
      rw zero-add at
      (loop (λ j. Reached j j 0) (column_steps k) 0 (suc k) (λ j x y. a_column j (omega arith)) (λ a b. 0)
      (record {
        here = refl;
        past = λ a b l m n. absurd (omega arith);
        above = λ a l m. absurd (omega arith);
        below = λ a l. refl;
        later = λ a b l. refl;
      }))

  -- In the Rust's order each step is ready when its turn comes,
  pub rust_runs : Runs k (λ a b. 0) (rust_order k)
  rust_runs = whole.0

  -- and at its end every block is finished.
  pub rust_finishes : (i j : ℕ) → j ≤ i → i ≤ k → advance_all (λ a b. 0) (rust_order k) i j ≡ suc j
  rust_finishes i j l m = whole.1.past i j l m (omega arith)

-- Laws of a table with one place changed, of a set with one step more, and of the names of steps.
use Prim.Native.Nat.{ℕ, ◌≤◌}
use mathlib.Core.Path.{◌≡◌, refl}
use mathlib.Core.Logic.{◌⊎◌, inl, inr, ⊎_elim}
use mathlib.Core.Bool.{Bool, true, false, ◌&&◌}
use native.Mathlib.Decide.{ℕ_discrete}
use native.Mathlib.Omega.{arith}
use lib.Dec.{eqb}
use borrow.Author.Tests.{eq-eqb, eqb-true, eqb-false}
use Rattle.step_order.specs.Steps.{Step, S, C, T, step_discrete, row, col, index, IsStep}
use Rattle.step_order.specs.Progress.{put, join}

-- a place is the changed one, or another
pub at : (a b i j : ℕ) → ((a ≡ i) × (b ≡ j)) ⊎ (((eqb a i && eqb b j) ≡ false) × (a ≡ i → b ≡ j → ⊥))
at a b i j = go (eqb a i) (eqb b j) refl refl
  where
    go : (p q : Bool) → eqb a i ≡ p → eqb b j ≡ q → ((a ≡ i) × (b ≡ j)) ⊎ (((eqb a i && eqb b j) ≡ false) × (a ≡ i → b ≡ j → ⊥))
    go true true d e = inl (eqb-true a i d, eqb-true b j e)
    go true false d e = inr (rw (d, e), λ x y. eqb-false b j e y)
    go false q d e = inr (rw d, λ x y. eqb-false a i d x)

-- the changed place, and the others
pub put_here {ℓ} : {A : Type ℓ} (f : ℕ → ℕ → A) (i j : ℕ) (v : A) → put f i j v i j ≡ v
put_here f i j v = rw (eq-eqb i i refl, eq-eqb j j refl)

pub put_else {ℓ} : {A : Type ℓ} (f : ℕ → ℕ → A) (i j : ℕ) (v : A) (a b : ℕ) → (a ≡ i → b ≡ j → ⊥) → put f i j v a b ≡ f a b
put_else f i j v a b n = ⊎_elim (λ w. absurd (n w.0 w.1)) (λ w. rw w.0) (at a b i j)

-- what holds of the new value, and of the old ones elsewhere, holds of the changed table
pub put_all {ℓ} : {A : Type ℓ} (P : ℕ → ℕ → A → Type 0) (f : ℕ → ℕ → A) (i j : ℕ) (v : A) (a b : ℕ)
    → (a ≡ i → b ≡ j → P i j v) → ((a ≡ i → b ≡ j → ⊥) → P a b (f a b)) → P a b (put f i j v a b)
put_all P f i j v a b p q = ⊎_elim (λ w. rw (w.0, w.1, eq-eqb i i refl, eq-eqb j j refl) (p w.0 w.1)) (λ w. rw w.0 (q w.1)) (at a b i j)

-- of the set with s, t is s or an element from before
pub join_all_lem : (P : Bool → Type 0) (d : Step → Bool) (s t : Step) → (t ≡ s → P true) → ((t ≡ s → ⊥) → P (d t)) → P (join d s t)
join_all_lem P d s t a b = go (step_discrete ℕ_discrete t s) refl
  where
    go : (c : Dec (t ≡ s)) → step_discrete ℕ_discrete t s ≡ c → P (join d s t)
    go (yes e) q = rw (q, join) (a e)
    go (no e) q = rw (q, join) (b e)

-- a step is no further than its target's diagonal, and its target is in the lower triangle
pub in_range : (k : ℕ) (s : Step) → IsStep k s → (index s ≤ col s) × (col s ≤ row s) × (row s ≤ k)
in_range k (S i j h) n = omega arith
in_range k (C j) n = omega arith
in_range k (T i j) n = omega arith

-- target and number fix a step
pub step_unique : (k : ℕ) (s t : Step) → IsStep k s → IsStep k t → row s ≡ row t → col s ≡ col t → index s ≡ index t → s ≡ t
step_unique k (S i j h) (S a b c) m n x y z = cc
step_unique k (S i j h) (C b) m n x y z = absurd (omega arith)
step_unique k (S i j h) (T a b) m n x y z = absurd (omega arith)
step_unique k (C j) (S a b c) m n x y z = absurd (omega arith)
step_unique k (C j) (C b) m n x y z = cc
step_unique k (C j) (T a b) m n x y z = absurd (omega arith)
step_unique k (T i j) (S a b c) m n x y z = absurd (omega arith)
step_unique k (T i j) (C b) m n x y z = absurd (omega arith)
step_unique k (T i j) (T a b) m n x y z = cc

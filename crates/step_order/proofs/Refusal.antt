-- A refused pivot does not depend on the order: a ready step refuses one exactly when the Rust's order refuses it there.
use Prim.Native.Nat.{ℕ, zero, suc, ◌≤◌, ◌<◌}
use mathlib.Core.Path.{◌≡◌, refl, ap, ap₂, subst, ◌∙◌}
use mathlib.Core.Logic.{by_cases}
use mathlib.Core.Option.{Option, none, some}
use native.Mathlib.Decide.{dec_lt, ℕ_discrete}
use native.Mathlib.Omega.{arith}
use borrow.Author.Tests.{eq-eqb, ne_eqb}
use Rattle.step_order.specs.Steps.{Step, S, C, T, col, IsStep}
use Rattle.step_order.specs.Elimination.{Rules, or_else, in_block, value, refused_before, refused_at}
use Rattle.step_order.specs.Progress.{Ready, State, row_in, refused_now, refused_in}
use Rattle.step_order.proofs.Invariant.{Held, at_stage, forced}

module _ (R : Rules) (start : ℕ → ℕ → R.Block) where
  -- what C(j) says of the value of its block
  abbrev verdict : ℕ → Option ℕ
  verdict j = R.pivots j (value R start j j j)

  -- Nothing is refused where no C refuses a pivot;
  pub none_refused : (n : ℕ) → ((j : ℕ) → j < n → verdict j ≡ none) → refused_before R start n ≡ none
  unfolding refused_before
  none_refused zero h = refl
  none_refused (suc n) h = rw (none_refused n (λ j l. h j (omega arith)), h n (omega arith))

  -- the first C that refuses one names it;
  pub first_refused : (n j r : ℕ) → j < n → ((i : ℕ) → i < j → verdict i ≡ none) → verdict j ≡ some r → refused_before R start n ≡ some (j, r)
  unfolding refused_before
  first_refused zero j r l h e = absurd (omega arith)
  first_refused (suc n) j r l h e =
      by_cases (dec_lt j n) (λ m. rw (first_refused n j r m h e))
      (λ m. let q : j ≡ n = omega arith in rw (none_refused n (λ i x. h i (omega arith)), ← q, e))

  -- and what is refused is a pivot that its C refuses.
  pub refused_there : (n : ℕ) (p : ℕ × ℕ) → refused_before R start n ≡ some p → verdict p.0 ≡ some p.1
  unfolding refused_before
  refused_there zero p e = absurd (let z : ◌≡◌ {A = ℕ} 0 1 = cc in omega arith)
  refused_there (suc n) p e = go (refused_before R start n) (verdict n) refl refl e (refused_there n p)
    where
      go : (a : Option (ℕ × ℕ)) (b : Option ℕ) → refused_before R start n ≡ a → verdict n ≡ b → or_else a (in_block n b) ≡ some p
          → (refused_before R start n ≡ some p → verdict p.0 ≡ some p.1) → verdict p.0 ≡ some p.1
      go none none x y e h = absurd (let z : ◌≡◌ {A = ℕ} 0 1 = cc in omega arith)
      go none (some r) x y e h = let z : (n, r) ≡ p = cc in subst (λ (q : ℕ × ℕ). verdict q.0 ≡ some q.1) z y
      go (some q) b x y e h = h (x ∙ e)

  -- It is among those that were looked at.
  pub refused_below : (n : ℕ) (p : ℕ × ℕ) → refused_before R start n ≡ some p → p.0 < n
  unfolding refused_before
  refused_below zero p e = absurd (let z : ◌≡◌ {A = ℕ} 0 1 = cc in omega arith)
  refused_below (suc n) p e = go (refused_before R start n) (verdict n) refl e (refused_below n p)
    where
      go : (a : Option (ℕ × ℕ)) (b : Option ℕ) → refused_before R start n ≡ a → or_else a (in_block n b) ≡ some p → (refused_before R start n ≡ some p → p.0 < n) → p.0 < suc n
      go none none x e h = absurd (let z : ◌≡◌ {A = ℕ} 0 1 = cc in omega arith)
      go none (some r) x e h = let z : n ≡ p.0 = cc in omega arith
      go (some q) b x e h = let l = h (x ∙ e) in omega arith

module _ (R : Rules) (k : ℕ) (start : ℕ → ℕ → R.Block) where
  -- what the Rust's order refuses in a step is what it refuses
  pub refused_at_lem : (s : Step) (r : ℕ) → refused_in R k start s ≡ some r → refused_at R k start ≡ some (col s, r)
  refused_at_lem (S i j h) r e = absurd (let z : ◌≡◌ {A = ℕ} 0 1 = cc in omega arith)
  refused_at_lem (C j) r e = go (refused_at R k start) e
    where
      go : (q : Option (ℕ × ℕ)) → row_in j q ≡ some r → q ≡ some (j, r)
      go none e = absurd (let z : ◌≡◌ {A = ℕ} 0 1 = cc in omega arith)
      go (some p) e =
          by_cases (ℕ_discrete p.0 j)
          (λ x. let y : some p.1 ≡ some r = rw (eq-eqb p.0 j x) at e in let z : p.1 ≡ r = cc in ap₂ (λ (a b : ℕ). some (a, b)) x z)
          (λ x. let y : none ≡ some r = rw (ne_eqb p.0 j x) at e in absurd (let z : ◌≡◌ {A = ℕ} 0 1 = cc in omega arith))
  refused_at_lem (T i j) r e = absurd (let z : ◌≡◌ {A = ℕ} 0 1 = cc in omega arith)

  -- where the C before pass, C(j) refuses what the Rust's order refuses in it
  verdict_in : (j : ℕ) → j ≤ k → ((i : ℕ) → i < j → verdict R start i ≡ none) → verdict R start j ≡ refused_in R k start (C j)
  verdict_in j l h = go (verdict R start j) refl
    where
      other : (q : Option (ℕ × ℕ)) → refused_at R k start ≡ q → verdict R start j ≡ none → none ≡ row_in j q
      other none x y = refl
      other (some p) x y =
          by_cases (ℕ_discrete p.0 j)
          (λ e. let z : verdict R start j ≡ some p.1 = rw e at (refused_there R start (suc k) p x) in absurd (let o : ◌≡◌ {A = ℕ} 0 1 = cc in omega arith))
          (λ e. rw (ne_eqb p.0 j e))

      go : (v : Option ℕ) → verdict R start j ≡ v → v ≡ refused_in R k start (C j)
      go none y = other (refused_at R k start) refl y
      go (some r) y = rw (first_refused R start (suc k) j r (omega arith) h y, eq-eqb j j refl)

  -- A ready C sees the pivots of its block's value, whatever was done before it.
  pub pivots_seen : (u : State R) → Held R k start u → (j : ℕ) → j ≤ k → Ready u.stage (C j) → R.pivots j (u.block j j) ≡ R.pivots j (value R start j j j)
  pivots_seen u H j n r = ap (R.pivots j) (at_stage R k start u H j j j (omega arith) n r.0)

  -- A ready step refuses a pivot exactly when the Rust's order refuses it there.
  pub refused_same : (u : State R) → Held R k start u → (s : Step) → IsStep k s → Ready u.stage s → refused_now R s u ≡ refused_in R k start s
  refused_same u H (S i j h) n r = refl
  refused_same u H (C j) n r = pivots_seen u H j n r ∙ verdict_in j n (λ i l. H.passed i (omega (arith, forced R k start u H j n r.0)))
  refused_same u H (T i j) n r = refl

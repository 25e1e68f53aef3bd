-- Until the last step some step is ready: the first undone one in the Rust's order.
use Prim.Native.Nat.{ℕ, suc, ◌<◌}
use mathlib.Core.Path.{◌≡◌, refl}
use mathlib.Core.Bool.{Bool, true, false, cond}
use mathlib.Core.List.{List, [], ◌∷◌}
use native.Mathlib.Omega.{arith}
use Rattle.step_order.specs.Steps.{Step, IsStep, forerunners, rust_order}
use Rattle.step_order.specs.Progress.{all, join, outside, steps_left, Order, done, Bounded, Ready}
use Rattle.step_order.proofs.Tables.{join_all_lem}
use Rattle.step_order.proofs.Invariant.{bounded_begun}
use Rattle.step_order.proofs.Sets.{both_true, ready_after, represents_begun, order_runs}
use Rattle.step_order.proofs.RustOrder.{rust_runs}

-- The Rust's order is an order from the empty set on.
pub rust_order_lem : (k : ℕ) → Order k (λ s. false) (rust_order k)
rust_order_lem k = (order_runs k (rust_order k) (λ i j. 0) (bounded_begun k) (λ s. false) (represents_begun k)).1 (rust_runs k)

-- a larger set has all that the smaller has
pub all_grows : (e d : Step → Bool) → ((s : Step) → e s ≡ true → d s ≡ true) → (l : List Step) → all e l ≡ true → all d l ≡ true
all_grows e d h [] q = refl
all_grows e d h (s ∷ l) q = let p = both_true (e s) (all e l) q in rw (h s p.0, all_grows e d h l p.1)

-- of an order from a set e on, the first step outside the larger set d
first : (k : ℕ) (d : Step → Bool) (l : List Step) (e : Step → Bool) → Order k e l → ((s : Step) → e s ≡ true → d s ≡ true) → 0 < outside d l
    → (s : Step) × IsStep k s × (d s ≡ false) × (all d (forerunners s) ≡ true)
first k d [] e o h l = absurd (omega arith)
first k d (s ∷ m) e o h l =
    go (d s) refl l (λ q. first k d m (join e s) o.3 (λ t. join_all_lem (λ x. x ≡ true → d t ≡ true) e s t (λ z x. rw (z, q)) (λ z. h t)))
  where
    Found : Type 0
    Found = (s : Step) × IsStep k s × (d s ≡ false) × (all d (forerunners s) ≡ true)

    go : (b : Bool) → d s ≡ b → 0 < cond b (outside d m) (suc (outside d m)) → (d s ≡ true → 0 < outside d m → Found) → Found
    go true q l f = f q l
    go false q l f = (s, o.0, q, all_grows e d h (forerunners s) o.2)

module _ (k : ℕ) where
  -- By the set: while a step is left, some undone step has its forerunners done.
  pub some_next : (d : Step → Bool) → 0 < steps_left k d → (s : Step) × IsStep k s × (d s ≡ false) × (all d (forerunners s) ≡ true)
  some_next d l = first k d (rust_order k) (λ s. false) (rust_order_lem k) (λ s e. absurd (let z : ◌≡◌ {A = ℕ} 0 1 = cc in omega arith)) l

  -- By the stages: while a step is left, some step is ready.
  pub some_ready : (g : ℕ → ℕ → ℕ) → Bounded k g → 0 < steps_left k (done g) → (s : Step) × IsStep k s × Ready g s
  some_ready g most l = let p = some_next (done g) l in (p.0, p.1, (ready_after k g most (done g) (λ s n. refl) p.0 p.1).1 (p.2, p.3))

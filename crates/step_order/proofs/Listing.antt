-- An order has no step twice, and one that finishes every block has every step; so has the Rust's.
use Prim.Native.Nat.{ℕ, suc, ◌<◌}
use mathlib.Core.Path.{refl, ap₂}
use mathlib.Core.Logic.{◌⊎◌, inl, inr, ⊎_elim, by_cases}
use mathlib.Core.List.Memᴰ
use mathlib.Core.List.{List, [], ◌∷◌, Memᴰ}
use native.Mathlib.Decide.{dec_lt}
use native.Mathlib.Omega.{arith}
use Rattle.step_order.specs.Steps.{Step, row, col, index, IsStep, Distinct, rust_order}
use Rattle.step_order.specs.Progress.{advance}
use Rattle.step_order.proofs.Tables.{put_all, in_range, step_unique}
use Rattle.step_order.proofs.RustOrder.{advance_all, Runs, rust_runs, rust_finishes}

module _ (k : ℕ) where
  -- an order has named steps only
  runs_named : (g : ℕ → ℕ → ℕ) (l : List Step) → Runs k g l → (s : Step) → Memᴰ s l → IsStep k s
  runs_named g [] r s m = absurd (Memᴰ.not-nil m)
  runs_named g (t ∷ l) r s m = ⊎_elim (λ e. rw e r.0) (runs_named (advance g t) l r.2 s) (Memᴰ.cases_cons m)

  -- a step that is done does not come again
  runs_undone : (g : ℕ → ℕ → ℕ) (l : List Step) → Runs k g l → (s : Step) → index s < g (row s) (col s) → Memᴰ s l → ⊥
  runs_undone g [] r s d m = Memᴰ.not-nil m
  runs_undone g (t ∷ l) r s d m =
      ⊎_elim (λ e. let q : index t < g (row t) (col t) = rw e at d in omega (arith, r.1.0))
      (runs_undone (advance g t) l r.2 s
      (put_all (λ (a b x : ℕ). index s < x) g (row t) (col t) (suc (index t)) (row s) (col s) (λ x y. omega (arith, r.1.0, ap₂ g x y)) (λ o. d)))
      (Memᴰ.cases_cons m)

  -- so an order has no step twice
  pub runs_distinct : (g : ℕ → ℕ → ℕ) (l : List Step) → Runs k g l → Distinct l
  runs_distinct g [] r = tt
  runs_distinct g (s ∷ l) r = (
    runs_undone (advance g s) l r.2 s (put_all (λ (a b x : ℕ). index s < x) g (row s) (col s) (suc (index s)) (row s) (col s) (λ x y. omega arith) (λ o. absurd (o refl refl))),
    runs_distinct (advance g s) l r.2,
  )

  -- a step that is done at the end was done at the start or is in the list
  pub runs_has : (g : ℕ → ℕ → ℕ) (l : List Step) → Runs k g l → (s : Step) → IsStep k s → index s < advance_all g l (row s) (col s)
      → (index s < g (row s) (col s)) ⊎ Memᴰ s l
  runs_has g [] r s n d = inl d
  runs_has g (t ∷ l) r s n d =
      ⊎_elim
      (put_all (λ (a b x : ℕ). index s < x → (index s < g (row s) (col s)) ⊎ Memᴰ s (t ∷ l)) g (row t) (col t) (suc (index t)) (row s) (col s)
      (λ x y e. by_cases (dec_lt (index s) (index t)) (λ m. inl (omega (arith, r.1.0, ap₂ g x y)))
      (λ m. inr (Memᴰ.head (step_unique k s t n r.0 x y (omega arith)))))
      (λ o. inl))
      (λ m. inr (Memᴰ.tail m))
      (runs_has (advance g t) l r.2 s n d)

  -- The Rust's order has every step,
  pub rust_has : (s : Step) → IsStep k s → Memᴰ s (rust_order k)
  rust_has s n =
      ⊎_elim (λ e. absurd (omega arith)) (λ m. m)
      (runs_has (λ i j. 0) (rust_order k) (rust_runs k) s n (omega (arith, in_range k s n, rust_finishes k (row s) (col s) (in_range k s n).1 (in_range k s n).2)))

  -- and none twice,
  pub rust_distinct : Distinct (rust_order k)
  rust_distinct = runs_distinct (λ i j. 0) (rust_order k) (rust_runs k)

  -- and nothing else.
  pub rust_named : (s : Step) → Memᴰ s (rust_order k) → IsStep k s
  rust_named = runs_named (λ i j. 0) (rust_order k) (rust_runs k)

-- How an update ends, and what it has to come to whatever the order of its steps (demand 3; document 01, Records 4 and 5).
use Rattle.std.specs.Prelude.{ℕ, suc, ◌≤◌, ◌≡◌, false, List, [], ◌∷◌}
use Rattle.std.proofs.Math.Option.{Option, none, some}
use Rattle.step_order.specs.Steps.{Step, col}
use Rattle.step_order.specs.Elimination.{Rules, final, total, refused_at}
use Rattle.step_order.specs.Progress.{join_all, steps_left, Order, State, moved, refused_now}

-- How a list of steps ends: at a refused pivot, its block and row, or with all of them done.
pub data Outcome (A : Type 0) : Type 0 where
  stopped : ℕ → ℕ → Outcome A
  reached : A → Outcome A

-- stop where a row of block j is refused
abbrev pub unless : {A : Type 0} → ℕ → Option ℕ → Outcome A → Outcome A
unless j none o = o
unless j (some r) o = stopped j r

-- An order of all steps, from the empty set on.
abbrev pub Complete : ℕ → List Step → Type 0
Complete k l = Order k (λ s. false) l × (steps_left k (join_all (λ s. false) l) ≡ 0)

module _ (R : Rules) where
  -- The steps of a list in turn, to its end or to a refused pivot.
  unfoldable pub run : State R → List Step → Outcome (State R)
  run u [] = reached u
  run u (s ∷ l) = unless (col s) (refused_now R s u) (run (moved R s u) l)

  module _ (k : ℕ) where
    -- What an update from `start` has to come to: the pivot that is refused first in C(0), .., C(k); or, where none is, the working factor and the logarithms' sum of all factors.
    abbrev pub Correct : (ℕ → ℕ → R.Block) → Outcome (State R) → Type 0
    Correct start (stopped b r) = refused_at R k start ≡ some (b, r)
    Correct start (reached u) =
        (refused_at R k start ≡ none) × ((i j : ℕ) → j ≤ i → i ≤ k → u.block i j ≡ final R start i j) × (u.sum ≡ total R start (suc k))

    -- Two updates end alike: at the same pivot, or with the same blocks and the same sum.
    abbrev pub Alike : Outcome (State R) → Outcome (State R) → Type 0
    Alike (stopped a q) (stopped b r) = (a ≡ b) × (q ≡ r)
    Alike (stopped a q) (reached v) = ⊥
    Alike (reached u) (stopped b r) = ⊥
    Alike (reached u) (reached v) = ((i j : ℕ) → j ≤ i → i ≤ k → u.block i j ≡ v.block i j) × (u.sum ≡ v.sum)

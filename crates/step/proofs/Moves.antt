-- The progress that a step hands back fits a heading.
use Prim.Native.Nat.{ℕ, zero, suc, ◌+◌, ◌≤◌, ◌<◌}
use mathlib.Core.Path.{◌≡◌, sym, subst}
use mathlib.Core.List.{List, [], ◌∷◌}
use mathlib.Core.Option.{Option, none, some}
use native.Mathlib.Omega.{arith}
use lib.ListN.{get_or, take, drop, set}
use lib.Seq.{get_or-drop}
use lib.Ieee.{Float}
use Rattle.step_order.specs.Steps.{Step, S, C, T, index, IsStep}
use Rattle.layout.specs.declared.Layout.{Layout}
use Rattle.heading_format.specs.declared.Progress.{Progress}
use Rattle.heading_format.specs.Heading.{progress_of}
use Rattle.update.specs.Calls.{refused_by}
use Rattle.heading.specs.writer.Small.{SmallProgress}
use Rattle.heading.proofs.writer.Idle.{idle_small}
use Rattle.step.specs.declared.step_result.StepResult.{StepResult}
use Rattle.step.specs.step_result.Applied.{moved_by, Applied}
use Rattle.heading_format.specs.Parts.{steps_left_at, stages_at, most_targets}

-- ---- numbers below a bound

module _ (bound : ℕ) (above : 0 < bound) where
  abbrev Small : List ℕ → Type 0
  Small l = (i : ℕ) → get_or l i 0 < bound

  small_take : (n : ℕ) (l : List ℕ) → Small l → Small (take n l)
  small_take zero l h i = above
  small_take (suc n) [] h i = above
  small_take (suc n) (x ∷ l) h zero = h 0
  small_take (suc n) (x ∷ l) h (suc i) = small_take n l (λ j. h (suc j)) i

  small_drop : (n : ℕ) (l : List ℕ) → Small l → Small (drop n l)
  small_drop n l h i = subst (λ (x : ℕ). x < bound) (sym (get_or-drop n l i 0)) (h (n + i))

  small_set : (l : List ℕ) (p v : ℕ) → Small l → v < bound → Small (set l p v)
  small_set [] p v h b i = h i
  small_set (x ∷ l) zero v h b zero = b
  small_set (x ∷ l) zero v h b (suc i) = h (suc i)
  small_set (x ∷ l) (suc p) v h b zero = h 0
  small_set (x ∷ l) (suc p) v h b (suc i) = small_set l p v (λ j. h (suc j)) b i

-- a step's number is below that of the last block, or it
index_small : (k : ℕ) (s : Step) → IsStep k s → index s ≤ k
index_small k (S i j x) n = let a = n.0 in let b = n.1 in let c = n.2 in omega arith
index_small k (C j) n = n
index_small k (T i j) n = let a = n.0 in let b = n.1 in omega arith

-- ---- the progress

progress_small : (h : List ℕ) → ((i : ℕ) → get_or h i 0 < 4294967296) → SmallProgress (progress_of h)
unfolding progress_of
progress_small h b =
    record { left = b steps_left_at; stages = small_take 4294967296 (omega arith) most_targets (drop stages_at h) (small_drop 4294967296 (omega arith) stages_at h b) }

moved_small : (y : Layout) (g : Progress) (s : Step) → SmallProgress g → y.k ≤ 8 → IsStep y.k s → (o : Option ℕ) → SmallProgress (moved_by y g s o).progress
moved_small y g s b k n none =
    let l = b.left in
    record { left = omega arith; stages = small_set 4294967296 (omega arith) g.stages _ (suc (index s)) b.stages (omega (arith, index_small y.k s n)) }
moved_small y g s b k n (some r) = idle_small y.k k

-- what a step hands back, out of a heading of u32 numbers
pub handed_small : (h : List ℕ) (y : Layout) (g : Progress) (s : Step) → ((i : ℕ) → get_or h i 0 < 4294967296) → g ≡ progress_of h → y.k ≤ 8 → IsStep y.k s → (w w' : List Float) (m : StepResult)
    → Applied y g h w w' s m → SmallProgress m.progress
handed_small h y g s b is k n w w' m t =
    subst (λ (x : StepResult). SmallProgress x.progress) (sym t.moved) (moved_small y g s (subst SmallProgress (sym is) (progress_small h b)) k n (refused_by h w s))

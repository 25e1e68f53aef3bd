-- The stages where they lie, the number of steps, and the tests of a progress.
use Prim.Native.Nat.{ℕ, suc, ◌+◌, ◌*◌, ◌/◌, ◌≤◌}
use mathlib.Core.Path.{◌≡◌, sym, ap, ◌∙◌}
use mathlib.Core.Bool.{Bool, true, false, ◌&&◌}
use native.Mathlib.Nat.{mul-le-mul, zero-add}
use native.Mathlib.Omega.{arith}
use lib.Dec.{leb, eqb}
use lib.ListN.{length, get_or, drop}
use mathlib.Core.List.{List}
use lib.Seq.{get_or-take, get_or-drop}
use Rattle.storage.specs.Runs.{start, triangle}
use Rattle.storage.proofs.Starts.{start_triangle}
use Rattle.step_order.specs.Steps.{rust_order}
use Rattle.heading_format.specs.declared.Progress.{Progress}
use Rattle.heading_format.specs.Heading.{every, valid_state, valid_progress, progress_of}
use Rattle.heading_check.specs.declared.stage_check.Walk.{Walk}
use Rattle.heading_check.specs.stage_check.Walk.{walked, stages_in}
use Rattle.heading_check.proofs.stage_check.Walks.{walked_is}
use Rattle.heading_format.specs.Parts.{stages_at, most_targets}

-- ---- the place of a stage
pub row_product : (i : ℕ) → i ≤ 8 → i * (i + 1) ≤ 72
row_product i h = let g : i + 1 ≤ 9 = omega arith in omega (arith, mul-le-mul h g)

pub rows_before : (i : ℕ) → i ≤ 8 → (i * (i + 1) / 2 ≡ start triangle i) × (i * (i + 1) / 2 ≤ 36)
rows_before i h = (omega (arith, start_triangle i), omega (arith, row_product i h))

pub stage_at : (h : List ℕ) (i j : ℕ) {r v : ℕ} → r ≡ start triangle i → r ≤ 36 → j ≤ i → i ≤ 8 → v ≡ get_or h (stages_at + r + j) 0 → v ≡ stages_in h i j
unfolding progress_of
stage_at h i j {r} {v} e a b c q =
    let z : stages_at + r + j ≡ stages_at + (start triangle i + j) = omega arith in
    q ∙ ap (λ (x : ℕ). get_or h x 0) z ∙ sym (get_or-take most_targets (drop stages_at h) (start triangle i + j) 0 (omega arith) ∙ get_or-drop stages_at h (start triangle i + j) 0)

-- ---- the tests
abbrev bounded : List ℕ → ℕ → Bool
bounded h k = every (λ i. every (λ j. leb (stages_in h i j) (suc j)) (suc i)) (suc k)

module _ (h : List ℕ) (k : ℕ) {b : Bool} (e : b ≡ bounded h k) where
  pub not_bounded : b ≡ false → false ≡ valid_progress k (progress_of h)
  unfolding valid_progress
  not_bounded z = rw (← e, z)

  pub all_tests : {w : Walk} {g : Progress} {n : ℕ} {t : Bool} → b ≡ true → w ≡ walked (stages_in h) (record { left = 0; valid = true }) (rust_order k) → g ≡ progress_of h
      → n ≡ length (rust_order k) → t ≡ valid_state g.state g.left n → (eqb g.left w.left && w.valid && t) ≡ valid_progress k (progress_of h)
  unfolding valid_progress
  all_tests {w} {g} {n} {t} z q a c d =
      rw (← e, z, d, c, q, walked_is (stages_in h) (record { left = 0; valid = true }) (rust_order k), a, zero-add)

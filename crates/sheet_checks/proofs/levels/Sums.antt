-- The sum of the levels, as the loop makes it and as the sheet's blocks have it.
use Prim.Native.Nat.{ℕ, zero, suc, ◌+◌, ◌^◌, ◌≤◌, ◌<◌}
use mathlib.Core.Path.{◌≡◌, refl, ap, ◌∙◌}
use mathlib.Core.List.{List, [], ◌∷◌}
use native.Mathlib.Omega.{arith}
use native.Mathlib.Numerals.{add-one}
use lib.ListN.{length, get_or}
use Rattle.sheet.specs.Run.{Block}
use Rattle.sheet.specs.Fault.{covered_rows}
use Rattle.sheet.specs.Whole.{Each, BlockInRange}
use Rattle.layout.specs.Blocks.{padded, sum}
use Rattle.layout.proofs.Sums.{sum_small, sum_front}
use Rattle.sheet_checks.specs.levels.Held.{level_list}

-- ---- the loop: t is the sum of the first i
pub record Summed (m : List ℕ) (n t i : ℕ) : Type 0 where
  pub same : t ≡ sum (λ j. get_or m j 0) i
  pub within : i ≤ n

pub summed_start : (m : List ℕ) (n : ℕ) → Summed m n 0 0
unfolding sum
summed_start m n = record { same = refl; within = omega arith }

pub summed_more : {m : List ℕ} {n t i : ℕ} → Summed m n t i → i < n → Summed m n (t + get_or m i 0) (i + 1)
unfolding sum
summed_more v h = record { same = rw (add-one, v.same) refl; within = omega arith }

pub summed_fits : {m : List ℕ} {n t i : ℕ} → Summed m n t i → i < n → (n ≤ 8) × ((i : ℕ) → i < 8 → get_or m i 0 ≤ 65535) → t + get_or m i 0 < 2 ^ 64
summed_fits {m} {n} {t} {i} v h b =
    let e = v.same in
    let k = b.0 in
    omega (arith, sum_small (λ j. get_or m j 0) 65535 i (λ j g. b.1 j (omega arith)), b.1 i (omega arith))

pub summed_done : {m : List ℕ} {n t i : ℕ} → Summed m n t i → n ≤ i → t ≡ sum (λ j. get_or m j 0) n
summed_done {m} {n} {t} {i} v h = let e : i ≡ n = omega arith in v.same ∙ ap (sum (λ j. get_or m j 0)) e

-- ---- the sum of padded levels is what the blocks cover
-- Levels of at most n blocks, padded to n.
pub levels_sum : (n : ℕ) (l : List Block) → length l ≤ n → sum (λ i. get_or (padded n (level_list l)) i 0) n ≡ covered_rows l
unfolding padded level_list covered_rows sum
levels_sum zero [] h = refl
levels_sum zero (b ∷ l) h = absurd (omega arith)
levels_sum (suc n) [] h =
    sum_front (λ i. get_or (padded (suc n) (level_list [])) i 0) n ∙ ap (λ (x : ℕ). 0 + x) (levels_sum n [] (omega arith))
levels_sum (suc n) (b ∷ l) h =
    sum_front (λ i. get_or (padded (suc n) (level_list (b ∷ l))) i 0) n ∙ ap (λ (x : ℕ). b.m + x) (levels_sum n l (omega arith))

-- Levels in range are at most 65535 each, and so are the zeros behind them.
pub levels_small : (n : ℕ) (l : List Block) → Each BlockInRange l → (i : ℕ) → get_or (padded n (level_list l)) i 0 ≤ 65535
unfolding padded level_list
levels_small zero l a i = omega arith
levels_small (suc n) [] a zero = omega arith
levels_small (suc n) [] a (suc i) = levels_small n [] a i
levels_small (suc n) (b ∷ l) a zero = a.0.m.1
levels_small (suc n) (b ∷ l) a (suc i) = levels_small n l a.1 i

-- How many steps an update has, by a closed formula.
use Prim.Native.Nat.{ℕ, ◌+◌, ◌*◌, ◌/◌, ◌≤◌}
use mathlib.Core.Path.{◌≡◌, refl}
use mathlib.Core.Bool.{true}
use native.Mathlib.Nat.{mul-le-mul}
use native.Mathlib.Omega.{arith}
use lib.Dec.{eqb}
use lib.ListN.{length}
use borrow.Author.Tests.{eqb-true}
use Rattle.step_order.specs.Steps.{rust_order}
use Rattle.heading_format.specs.Heading.{every}
use Rattle.heading_format.proofs.Valid.{every_at}

-- the factors of the formula are small
pub pair_small : (k : ℕ) → k ≤ 8 → (k + 1) * (k + 2) ≤ 9 * 10
pair_small k h = let a : k + 1 ≤ 9 = omega arith in let b : k + 2 ≤ 10 = omega arith in mul-le-mul a b

pub triple_small : (k : ℕ) → k ≤ 8 → (k + 1) * (k + 2) * (k + 3) ≤ 9 * 10 * 11
triple_small k h = let c : k + 3 ≤ 11 = omega arith in mul-le-mul (pair_small k h) c

counted : every (λ k. eqb ((k + 1) * (k + 2) * (k + 3) / 6) (length (rust_order k))) 9 ≡ true
unfolding every rust_order
counted = refl

-- for every number of blocks
pub step_count_lem : (k : ℕ) → k ≤ 8 → (k + 1) * (k + 2) * (k + 3) / 6 ≡ length (rust_order k)
step_count_lem k h =
    eqb-true ((k + 1) * (k + 2) * (k + 3) / 6) (length (rust_order k))
    (every_at (λ k. eqb ((k + 1) * (k + 2) * (k + 3) / 6) (length (rust_order k))) 9 counted k (omega arith))

-- Examples, computed: how many steps two and three blocks have, the Rust's order of three, and what is ready at the start.
use Prim.Native.Nat.{ℕ, ◌+◌, ◌-◌, ◌*◌}
use mathlib.Core.Path.{◌≡◌, refl}
use mathlib.Core.Bool.{true, false, cond}
use mathlib.Core.List.{[], ◌∷◌}
use mathlib.Core.Option.{none, some}
use native.Mathlib.Decide.{ℕ_discrete}
use lib.Dec.{eqb}
use Rattle.step_order.specs.Steps.{S, C, T, forerunners, rust_order, step_count}
use Rattle.step_order.specs.Elimination.{Rules, value, final, total, refused_before, refused_at}
use Rattle.step_order.specs.Progress.{all, join, steps_left, ready, begun}
use Rattle.step_order.specs.Outcome.{stopped, run}

-- Two blocks have four steps.
pub of_two : rust_order 1 ≡ C 0 ∷ T 1 0 ∷ S 1 1 0 ∷ C 1 ∷ []
unfolding rust_order
of_two = refl

pub count_two : step_count 2 ≡ 4
count_two = refl

-- Three blocks have ten.
pub of_three : rust_order 2 ≡ C 0 ∷ T 1 0 ∷ T 2 0 ∷ S 1 1 0 ∷ C 1 ∷ S 2 1 0 ∷ T 2 1 ∷ S 2 2 0 ∷ S 2 2 1 ∷ C 2 ∷ []
unfolding rust_order
of_three = refl

pub count_three : step_count 3 ≡ 10
count_three = refl

-- At the start C(0) is ready and T(1,0) is not, by the stages and by the set.
pub first : (ready (λ i j. 0) (C 0) ≡ true) × (all (λ s. false) (forerunners (C 0)) ≡ true)
first = (refl, refl)

pub not_first : (ready (λ i j. 0) (T 1 0) ≡ false) × (all (λ s. false) (forerunners (T 1 0)) ≡ false)
not_first = (refl, refl)

-- After C(0) it is; S(2,1,0) needs both T(2,0) and T(1,0).
pub second : all (join (λ s. false) (C 0)) (forerunners (T 1 0)) ≡ true
unfolding ℕ_discrete
second = refl

pub both : (all (join (λ s. false) (T 2 0)) (forerunners (S 2 1 0)) ≡ false) × (all (join (join (λ s. false) (T 2 0)) (T 1 0)) (forerunners (S 2 1 0)) ≡ true)
unfolding ℕ_discrete
both = (refl, refl)

-- Right after begin all ten are left; after C(0) nine.
pub left_three : (steps_left 2 (λ s. false) ≡ 10) × (steps_left 2 (join (λ s. false) (C 0)) ≡ 9)
unfolding rust_order ℕ_discrete
left_three = (refl, refl)

-- A toy: whole numbers for blocks, and a pivot of zero is refused in row 0.
abbrev toy : Rules
toy =
    record {
      Block = ℕ;
      Total = ℕ;
      subtract = λ i j h x a b. x - a * b;
      pivots = λ j x. cond (eqb x 0) (some 0) none;
      factor = λ j x. x;
      solve = λ i j x f. x;
      empty_sum = 0;
      logs = λ j t x. t + x;
    }

-- Blocks (0,0), (1,0), (1,1) of 1, 1, 1 leave 1 - 1 · 1 in C(1), and 1, 2, 9 leave 9 - 2 · 2.
pub singular : (run toy (begun toy (λ i j. 1)) (rust_order 1) ≡ stopped 1 0) × (refused_at toy 1 (λ i j. 1) ≡ some (1, 0))
unfolding rust_order run refused_before value
singular = (refl, refl)

pub regular : (final toy (λ i j. cond (eqb i j) (1 + 8 * i) 2) 1 1 ≡ 5) × (total toy (λ i j. cond (eqb i j) (1 + 8 * i) 2) 2 ≡ 6)
unfolding value total
regular = (refl, refl)

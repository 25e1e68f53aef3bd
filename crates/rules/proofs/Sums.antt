-- Two terms of each sum, written out, and which cells a diagonal S takes, over any arithmetic.
use Prim.Native.Nat.{ℕ}
use mathlib.Core.Path.{◌≡◌, refl, ap}
use mathlib.Core.Bool.{Bool, true, false, cond}
use Rattle.rules.specs.Arithmetic.{Arithmetic}
use Rattle.rules.specs.Sums.{sum_from, subtract_from, dot, chain, logs_from}
use Rattle.rules.specs.Steps.{subtract_diagonal}

module _ (A : Arithmetic) where
  -- From 0.0, or from s, the lower index first.
  two_added : (a b : ℕ → A.Num) → dot A a b 2 ≡ A.plus (A.plus A.zero (A.times (a 0) (b 0))) (A.times (a 1) (b 1))
  unfolding sum_from
  two_added a b = refl

  two_subtracted : (s : A.Num) (a b : ℕ → A.Num) → chain A s a b 2 ≡ A.minus (A.minus s (A.times (a 0) (b 0))) (A.times (a 1) (b 1))
  unfolding subtract_from
  two_subtracted s a b = refl

  two_logarithms : (s : A.Num) (a : ℕ → A.Num) → logs_from A s a 2 ≡ A.plus (A.plus s (A.log (a 0))) (A.log (a 1))
  unfolding logs_from
  two_logarithms s a = refl

  -- A diagonal S takes every cell that was loaded, whatever it is now.
  diagonal_takes :
      (loaded : ℕ → ℕ → Bool) (t a : ℕ → ℕ → A.Num) (r c : ℕ) → loaded r 0 ≡ true
      → subtract_diagonal A loaded t a 1 r c ≡ A.minus (t r c) (A.plus A.zero (A.times (a r 0) (a r 0)))
  unfolding sum_from
  diagonal_takes loaded t a r c e = ap (λ b. A.minus (t r c) (cond b (A.plus A.zero (A.times (a r 0) (a r 0))) A.zero)) e

  -- And none that was not.
  diagonal_leaves :
      (loaded : ℕ → ℕ → Bool) (t a : ℕ → ℕ → A.Num) (r c : ℕ) → loaded r 0 ≡ false
      → subtract_diagonal A loaded t a 1 r c ≡ A.minus (t r c) A.zero
  unfolding sum_from
  diagonal_leaves loaded t a r c e = ap (λ b. A.minus (t r c) (cond b (A.plus A.zero (A.times (a r 0) (a r 0))) A.zero)) e

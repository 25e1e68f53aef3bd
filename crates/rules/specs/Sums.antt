-- The orders of operation (document 01, Records 4 and 7): every sum of products is one of these two, by rising index.
use Rattle.std.specs.Prelude.{ℕ, zero, suc, Bool, true, cond}
use Rattle.rules.specs.Arithmetic.{Arithmetic}

module _ (A : Arithmetic) where
  -- s plus those of n products that count, one by one
  unfoldable pub sum_from : A.Num → (ℕ → Bool) → (ℕ → A.Num) → (ℕ → A.Num) → ℕ → A.Num
  sum_from s counts a b zero = s
  sum_from s counts a b (suc n) =
      let so = sum_from s counts a b n in
      cond (counts n) (A.plus so (A.times (a n) (b n))) so

  -- s less those of n products that count, one by one
  unfoldable pub subtract_from : A.Num → (ℕ → Bool) → (ℕ → A.Num) → (ℕ → A.Num) → ℕ → A.Num
  subtract_from s counts a b zero = s
  subtract_from s counts a b (suc n) =
      let so = subtract_from s counts a b n in
      cond (counts n) (A.minus so (A.times (a n) (b n))) so

  -- every product counts
  abbrev pub all : ℕ → Bool
  all x = true

  -- the sum of n products, from 0.0
  abbrev pub dot : (ℕ → A.Num) → (ℕ → A.Num) → ℕ → A.Num
  dot a b n = sum_from A.zero all a b n

  -- s less n products, product by product
  abbrev pub chain : A.Num → (ℕ → A.Num) → (ℕ → A.Num) → ℕ → A.Num
  chain s a b n = subtract_from s all a b n

  -- s plus the logarithms of n numbers, one by one
  unfoldable pub logs_from : A.Num → (ℕ → A.Num) → ℕ → A.Num
  logs_from s a zero = s
  logs_from s a (suc n) = A.plus (logs_from s a n) (A.log (a n))

-- What it is to be the nearest double to a root, with squares of whole numbers and no reals.
use Rattle.std.specs.Prelude.{ℕ, zero, suc, ◌+◌, ◌-◌, ◌*◌, ◌^◌, ◌≤◌, ◌<◌, true, false, Float}
use Rattle.std.specs.Float.{nan, inf, fin}
use Rattle.std.specs.Float.Ieee.Exact.{HasValue}
use Rattle.std.specs.Float.Ieee.Positive.{num, den}

-- s is the whole number nearest to the root of n: 2 s - 1 < 2 √n < 2 s + 1, squared. The root is never halfway.
pub record Nearest (s n : ℕ) : Type 0 where
  pub above : (2 * s - 1) * (2 * s - 1) < 4 * n
  pub below : 4 * n < (2 * s + 1) * (2 * s + 1)

-- r is the root of x, rounded to 53 digits: x = n * 4 ^ h / 4 ^ 589, r = s * 2 ^ h / 2 ^ 589, s has 53 digits and is the whole number
-- nearest to the root of n
pub record IsRoot (x r : Float) : Type 0 where
  pub n : ℕ
  pub h : ℕ
  pub s : ℕ
  pub operand : HasValue x false (n * 4 ^ h) (4 ^ 589)
  pub result : HasValue r false (s * 2 ^ h) (2 ^ 589)
  pub operand_low : 2 ^ 104 ≤ n
  pub digits_low : 2 ^ 52 ≤ s
  pub digits_high : s < 2 ^ 53
  pub nearest : Nearest s n

-- r is finite, above 0 and normal: at least 2 ^ -1022
pub record Normal (r : Float) : Type 0 where
  pub above : HasValue r false (num r) (den r)
  pub not_small : den r ≤ num r * 2 ^ 1022

-- The double y, above 0 or a zero, is farther from the root of x than r is: where y is below r, the root lies above the middle of the two,
-- and where y is above r, below it. With y = a / c, r = b / d and x = p / q the middle is (a * d + b * c) / (2 * c * d).
pub record FartherNonNegative (x r y : Float) : Type 0 where
  pub from_below : num y * den r < num r * den y → (num y * den r + num r * den y) * (num y * den r + num r * den y) * den x < 4 * num x * (den y * den r * (den y * den r))
  pub from_above : num r * den y < num y * den r → 4 * num x * (den y * den r * (den y * den r)) < (num y * den r + num r * den y) * (num y * den r + num r * den y) * den x

-- Any other finite double is farther from the root. One below 0 is farther than 0 is, and 0 is because the root lies above half of r.
abbrev pub Farther : Float → Float → Float → Type 0
Farther x r nan = Unit
Farther x r (inf s) = Unit
Farther x r (fin false m e) = FartherNonNegative x r (fin false m e)
Farther x r (fin true m e) = num r * num r * den x < 4 * num x * (den r * den r)

-- r is not below 0: not -infinity and no finite number below 0. It may be -0, or NaN.
abbrev pub NotNegative : Float → Type 0
NotNegative nan = Unit
NotNegative (inf false) = Unit
NotNegative (inf true) = ⊥
NotNegative (fin s zero e) = Unit
NotNegative (fin false (suc m) e) = Unit
NotNegative (fin true (suc m) e) = ⊥

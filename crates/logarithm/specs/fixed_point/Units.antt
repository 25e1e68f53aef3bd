-- The natural logarithm of a double above 0, to the bit (document 01, Record 4, "Logarithm"): a sum in whole units, rounded once to a double.
use Rattle.std.specs.Prelude.{ℕ, zero, suc, ◌+◌, ◌*◌, ◌/◌, ◌^◌, cond, nat_lt, Float}
use Rattle.std.specs.Float.{binary64}
use Rattle.std.specs.Float.Ieee.{round}
use Rattle.float_bits.specs.declared.double.Parts.{Parts}
use Rattle.logarithm.specs.exact_log.Log.{apart, centre, rise}

-- ---- the numbers that fix every bit: a closer logarithm is another record of them
pub record Precision : Type 0 where
  -- units to one in the series, and its terms
  pub unit : ℕ
  pub terms : ℕ
  -- finer units to a unit: those in which ln 2 and the sum are counted
  pub guard : ℕ
  -- ln 2 in finer units, cut down
  pub ln2 : ℕ

abbrev pub chosen : Precision
chosen = record { unit = 2 ^ 62; terms = 10; guard = 1; ln2 = 3196577161300663914 }

-- ---- the inverse hyperbolic tangent of a / b with S units to one, each step cut down to whole units

-- a / b, and a square
abbrev pub ratio : ℕ → ℕ → ℕ → ℕ
ratio S a b = a * S / b

abbrev pub square : ℕ → ℕ → ℕ
square S z = z * z / S

-- by Horner's rule, 1 / (2 k + 1) + t / (2 k + 3) + t^2 / (2 k + 5) + .., n terms
unfoldable pub horner : ℕ → ℕ → ℕ → ℕ → ℕ
horner S t k zero = 0
horner S t k (suc n) = S / (2 * k + 1) + horner S t (suc k) n * t / S

-- z * (1 + z^2 / 3 + z^4 / 5 + ..), T terms, z = a / b
unfoldable pub artanh_units : ℕ → ℕ → ℕ → ℕ → ℕ
unfolding horner
artanh_units S a b T = ratio S a b * horner S (square S (ratio S a b)) 0 T / S

-- ---- ln (m / c * 2 ^ u / 2 ^ d) = (u - d) * ln 2 + 2 artanh ((m - c) / (m + c)): the sizes of the two parts, in finer units
abbrev pub whole_part : Precision → ℕ → ℕ → ℕ
whole_part P u d = apart u d * P.ln2

unfoldable pub series_part : Precision → ℕ → ℕ → ℕ
unfolding artanh_units
series_part P m c = 2 * (P.guard * artanh_units P.unit (apart m c) (m + c) P.terms)

-- what the two add and what they take away
unfoldable pub gain : Precision → ℕ → ℕ → ℕ → ℕ → ℕ
unfolding series_part
gain P m c u d = cond (nat_lt u d) 0 (whole_part P u d) + cond (nat_lt m c) 0 (series_part P m c)

unfoldable pub loss : Precision → ℕ → ℕ → ℕ → ℕ → ℕ
unfolding series_part
loss P m c u d = cond (nat_lt u d) (whole_part P u d) 0 + cond (nat_lt m c) (series_part P m c) 0

-- gain - loss finer units, rounded to the nearest double
unfoldable pub ln_sum : Precision → ℕ → ℕ → ℕ → ℕ → Float
unfolding gain loss round
ln_sum P m c u d = round binary64 (nat_lt (gain P m c u d) (loss P m c u d)) (apart (gain P m c u d) (loss P m c u d)) (P.guard * P.unit)

-- significand * 2 ^ exponent / 2 ^ 1126, split as exact_log's definition splits it
unfoldable pub ln_parts : Precision → Parts → Float
unfolding ln_sum
ln_parts P p = ln_sum P p.significand (centre p.significand) (rise p.significand p.exponent) 1074

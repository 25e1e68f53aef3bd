-- The significand and the exponent of a double above 0, from its bits as IEEE 754 lays them out (3.4).
use Rattle.std.specs.Prelude.{ℕ, ◌+◌, ◌-◌, ◌*◌, ◌/◌, ◌%◌, ◌^◌, ◌≤◌, ◌<◌, cond, eqb, Float}
use Rattle.std.specs.Float.{binary64}
use Rattle.std.specs.Float.Ieee.{size, to_bits}
use Rattle.float_bits.specs.declared.double.Parts.{Parts}

-- ---- of a pattern of bits: the exponent's field, and the digits with the leading one, which a field of 0 has not.
-- The double above 0 with the bits n is digits n * 2 ^ scale n / 2 ^ 1074.
abbrev pub field : ℕ → ℕ
field n = n / 2 ^ 52 % 2 ^ 11

abbrev pub digits : ℕ → ℕ
digits n = cond (eqb (field n) 0) (n % 2 ^ 52) (2 ^ 52 + n % 2 ^ 52)

abbrev pub scale : ℕ → ℕ
scale n = field n - 1

-- ---- q * 2 ^ k / 2 ^ 1074 with the leading digit of q brought to the 53rd place, by `places`: significand * 2 ^ exponent / 2 ^ 1126
unfoldable pub places : ℕ → ℕ
places q = 53 - size q

unfoldable pub leading : ℕ → ℕ → Parts
unfolding places
leading q k = record { significand = q * 2 ^ places q; exponent = k + 52 - places q }

unfoldable pub parts_of : ℕ → Parts
unfolding leading
parts_of n = leading (digits n) (scale n)

-- ---- of a double above 0
unfoldable pub significand : Float → ℕ
unfolding parts_of
significand x = (parts_of (to_bits binary64 x)).significand

unfoldable pub exponent : Float → ℕ
unfolding parts_of
exponent x = (parts_of (to_bits binary64 x)).exponent

-- ---- the parts that `kind_of` has: 53 digits, the first of them 1
pub record InPlace (p : Parts) : Type 0 where
  pub low : 2 ^ 52 ≤ p.significand
  pub high : p.significand < 2 ^ 53
  pub most : p.exponent ≤ 2098

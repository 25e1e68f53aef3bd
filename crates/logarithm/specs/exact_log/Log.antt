-- The exact natural logarithm of a finite double above 0, between two fractions (document 01, Record 4, "Logarithm").
-- x = 2^e * v with v from 3/4 to 3/2, so ln x = e * ln 2 + ln v, where ln 2 = 2 artanh (1/3) and ln v = 2 artanh ((v - 1) / (v + 1)).
use Rattle.std.specs.Prelude.{ℕ, ◌+◌, ◌-◌, ◌*◌, ◌^◌, cond, nat_lt, Float}
use Rattle.float_bits.specs.double.Parts.{significand, exponent}
use Rattle.logarithm.specs.exact_log.Fraction.{Interval, ◌⊕◌, stretched, signed}
use Rattle.logarithm.specs.exact_log.Artanh.{artanh}

-- |a - b|
abbrev pub apart : ℕ → ℕ → ℕ
apart a b = (a - b) + (b - a)

-- ---- x = significand * 2 ^ exponent / 2 ^ 1126 is m / c * 2 ^ u / 2 ^ 1074: m the significand, c the centre, 2 ^ 52 or 2 ^ 53, that m / c is near 1
abbrev pub centre : ℕ → ℕ
centre m = cond (nat_lt m (3 * 2 ^ 51)) (2 ^ 52) (2 ^ 53)

abbrev pub rise : ℕ → ℕ → ℕ
rise m t = t + cond (nat_lt m (3 * 2 ^ 51)) 0 1

-- (u - d) * ln 2 + ln (m / c)
abbrev pub log_of : ℕ → ℕ → ℕ → ℕ → ℕ → Interval
log_of m c u d N =
    signed (nat_lt u d) (stretched (2 * apart u d) (artanh 1 3 N)) ⊕ signed (nat_lt m c) (stretched 2 (artanh (apart m c) (m + c) N))

-- what ln x lies in, with N terms of each series
unfoldable pub exact_ln : Float → ℕ → Interval
exact_ln x N = log_of (significand x) (centre (significand x)) (rise (significand x) (exponent x)) 1074 N

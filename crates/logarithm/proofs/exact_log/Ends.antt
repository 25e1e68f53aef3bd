-- The ends of the exact logarithm: its intervals overlap, and what they are taken from is the double itself.
use Rattle.std.proofs.Common.{◌≡◌, ℕ, ◌+◌, ◌*◌, ◌^◌, ◌<◌, ◌≤◌, Bool, true, false, cond, not, T, ltb, sym, refl, ap, ◌∙◌, subst, arith, lit<, ltb→lt, nltb→le, pow-add}
use lib.Ieee.{Float, binary64, fits}
use lib.Ieee.Exact.{HasValue}
use lib.Ieee.Positive.{positive}
use Rattle.float_bits.specs.double.Parts.{significand, exponent}
use Rattle.float_bits.proofs.double.Value.{value, rescale, significand_low, significand_high}
use Rattle.logarithm.specs.exact_log.Fraction.{◌⊴◌}
use Rattle.logarithm.specs.exact_log.Artanh.{artanh}
use Rattle.logarithm.specs.exact_log.Log.{apart, centre, rise, log_of, exact_ln}
use Rattle.logarithm.proofs.exact_log.Bracket.{den_pos, top_pos, ends}
use Rattle.logarithm.proofs.exact_log.Order.{Proper, proper_sum, proper_stretched, proper_signed, Overlap, overlap_sum, overlap_stretched, overlap_signed}

-- ---- the series
-- each lower end is at or below each upper end
pub artanh_ordered : (a b M N : ℕ) → a < b → (artanh a b M).low ⊴ (artanh a b N).high
artanh_ordered a b M N h = omega (arith, ends a b M N h)

artanh_overlap : (a b M N : ℕ) → a < b → Overlap (artanh a b M) (artanh a b N)
artanh_overlap a b M N h = record { ahead = artanh_ordered a b M N h; back = artanh_ordered a b N M h }

-- the ends are fractions
pub artanh_proper : (a b N : ℕ) → a < b → Proper (artanh a b N)
artanh_proper a b N h = record { low_pos = den_pos b N (omega arith); high_pos = top_pos a b N h }

-- ---- the centre
near : (m : ℕ) (b : Bool) → ltb m (3 * 2 ^ 51) ≡ b → 2 ^ 52 ≤ m → m < 2 ^ 53
    → (5 * apart m (cond b (2 ^ 52) (2 ^ 53)) ≤ m + cond b (2 ^ 52) (2 ^ 53)) × (3 * cond b (2 ^ 52) (2 ^ 53) ≤ 4 * m) × (2 * m < 3 * cond b (2 ^ 52) (2 ^ 53))
near m true e l h = let k : m < 3 * 2 ^ 51 = ltb→lt m (3 * 2 ^ 51) (subst T (sym e) tt) in omega arith
near m false e l h = let k : 3 * 2 ^ 51 ≤ m = nltb→le m (3 * 2 ^ 51) (subst (λ (b : Bool). T (not b)) (sym e) tt) in omega arith

-- m / c is from 3/4 to 3/2, so |m - c| / (m + c) is at most a fifth
pub near_one : (m : ℕ) → 2 ^ 52 ≤ m → m < 2 ^ 53 → (5 * apart m (centre m) ≤ m + centre m) × (3 * centre m ≤ 4 * m) × (2 * m < 3 * centre m)
near_one m l h = near m (ltb m (3 * 2 ^ 51)) refl l h

below_sum : (m : ℕ) → 2 ^ 52 ≤ m → m < 2 ^ 53 → apart m (centre m) < m + centre m
below_sum m l h = let s : 0 < m + centre m = omega arith in omega (arith, (near_one m l h).0)

-- ---- the parts
shifted : (m t j A : ℕ) → m * 2 ^ (t + j) * A ≡ m * 2 ^ t * (2 ^ j * A)
shifted m t j A = ap (λ (n : ℕ). m * n * A) (pow-add 2 t j) ∙ regroup m (2 ^ t) (2 ^ j) A
  where
    regroup : (m P Q A : ℕ) → m * (P * Q) * A ≡ m * P * (Q * A)
    regroup m P Q A = omega arith

centred : (m t : ℕ) (b : Bool) → m * 2 ^ (t + cond b 0 1) * 2 ^ 1126 ≡ m * 2 ^ t * (cond b (2 ^ 52) (2 ^ 53) * 2 ^ 1074)
centred m t true = shifted m t 0 (2 ^ 1126)
centred m t false = shifted m t 1 (2 ^ 1126)

-- x is 2 ^ e * v, with e = u - 1074 and v = m / c
pub exact_parts : (x : Float) → T (fits binary64 x) → T (positive x) → HasValue x false (significand x * 2 ^ rise (significand x) (exponent x)) (centre (significand x) * 2 ^ 1074)
exact_parts x f p =
    rescale x false (significand x * 2 ^ exponent x) (2 ^ 1126) _ _ (lit< tt) (centred (significand x) (exponent x) (ltb (significand x) (3 * 2 ^ 51))) (value x f p)

-- ---- the logarithm
module _ (m c u d : ℕ) (h : apart m c < m + c) where
  log_overlap : (M N : ℕ) → Overlap (log_of m c u d M) (log_of m c u d N)
  log_overlap M N =
      overlap_sum (overlap_signed (ltb u d) (overlap_stretched (2 * apart u d) (artanh_overlap 1 3 M N (lit< tt))))
      (overlap_signed (ltb m c) (overlap_stretched 2 (artanh_overlap (apart m c) (m + c) M N h)))

  log_proper : (N : ℕ) → Proper (log_of m c u d N)
  log_proper N =
      proper_sum (proper_signed (ltb u d) (proper_stretched (2 * apart u d) (artanh_proper 1 3 N (lit< tt))))
      (proper_signed (ltb m c) (proper_stretched 2 (artanh_proper (apart m c) (m + c) N h)))

module _ (x : Float) (f : T (fits binary64 x)) (p : T (positive x)) where
  fraction_below : apart (significand x) (centre (significand x)) < significand x + centre (significand x)
  fraction_below = below_sum (significand x) (significand_low x f p) (significand_high x f p)

  -- each lower end is at or below each upper end
  pub exact_ordered : (M N : ℕ) → (exact_ln x M).low ⊴ (exact_ln x N).high
  unfolding exact_ln
  exact_ordered M N = (log_overlap (significand x) (centre (significand x)) (rise (significand x) (exponent x)) 1074 fraction_below M N).ahead

  -- both ends are fractions: no bot is 0
  pub exact_proper : (N : ℕ) → Proper (exact_ln x N)
  unfolding exact_ln
  exact_proper N = log_proper (significand x) (centre (significand x)) (rise (significand x) (exponent x)) 1074 fraction_below N

-- The ends of the exact logarithm meet: no two numbers lie in all its intervals.
use Rattle.std.proofs.Common.{◌≡◌, ℕ, zero, suc, ◌+◌, ◌-◌, ◌*◌, ◌^◌, ◌<◌, ◌≤◌, T, ltb, mul-le-mul_right, mul-le-mul, mul-le-mul_left, mul-pos, pow-suc, arith, lit<, lit≤}
use lib.Ieee.{Float, binary64, fits}
use lib.Ieee.Positive.{positive}
use Rattle.float_bits.specs.double.Parts.{significand, exponent}
use Rattle.float_bits.proofs.double.Value.{significand_low, significand_high}
use Rattle.logarithm.specs.exact_log.Fraction.{Fraction, over, times, ◌⊞◌, ◌⊴◌, Same, Inside}
use Rattle.logarithm.specs.exact_log.Artanh.{power, under, partial, tail, artanh}
use Rattle.logarithm.specs.exact_log.Log.{apart, centre, rise, log_of, exact_ln}
use Rattle.logarithm.proofs.exact_log.Bracket.{power_zero, power_suc, gap}
use Rattle.logarithm.proofs.exact_log.Order.{⊴-refl, ⊴-trans, ⊴-limit, ⊞-mono, Narrow, narrow_sum, narrow_stretched, narrow_signed, narrow_wider}
use Rattle.logarithm.proofs.exact_log.Ends.{near_one, exact_proper}

-- ---- the tail: with w = a / b at most 1/3, w ^ (2N + 1) is at most 9 ^ -N / 3, and 1 / (1 - w ^ 2) at most 9/8
power_small : (a b N : ℕ) → 3 * a ≤ b → 3 * power a N * 9 ^ N ≤ power b N
power_small a b zero h = omega (arith, power_zero a, power_zero b)
power_small a b (suc N) h = rw (power_suc a N, power_suc b N, pow-suc 9 N) (step (power a N) (9 ^ N) (power b N) (power_small a b N h))
  where
    step : (A P B : ℕ) → 3 * A * P ≤ B → 3 * (A * (a * a)) * (P * 9) ≤ B * (b * b)
    step A P B l = omega (arith, mul-le-mul l (mul-le-mul h h))

tail_small : (a b N : ℕ) → 0 < b → 3 * a ≤ b → tail a b N ⊴ over 1 (2 * 9 ^ N)
unfolding under
tail_small a b N B h = step (power a N) (power b N) (9 ^ N) (b * b - a * a) (power_small a b N h) (mul-le-mul h h) (gap a b (omega arith))
  where
    step : (A B P g : ℕ) → 3 * A * P ≤ B → 3 * a * (3 * a) ≤ b * b → a * a + g ≡ b * b
        → A * (b * b) * (2 * P) + 0 * ((2 * N + 1) * B * g) ≤ 1 * ((2 * N + 1) * B * g) + 0 * (2 * P)
    step A B P g l k e = let y : 8 * (b * b) ≤ 9 * g = omega arith in omega (arith, mul-le-mul_right (b * b) l, mul-le-mul_left B y)

-- with N terms the ends are at most 1 / (2 * 9 ^ N) apart
pub artanh_meets : (a b N : ℕ) → 0 < b → 3 * a ≤ b → (artanh a b N).high ⊴ ((artanh a b N).low ⊞ over 1 (2 * 9 ^ N))
artanh_meets a b N B h = ⊞-mono (partial a b N) (partial a b N) (tail a b N) (over 1 (2 * 9 ^ N)) (⊴-refl (partial a b N)) (tail_small a b N B h)

artanh_narrow : (a b N : ℕ) → 0 < b → 3 * a ≤ b → Narrow (over 1 (2 * 9 ^ N)) (artanh a b N)
artanh_narrow a b N B h = record { width = artanh_meets a b N B h }

-- ---- the logarithm of m / c * 2 ^ u / 2 ^ d
log_narrow : (m c u d N : ℕ) → 0 < m + c → 3 * apart m c ≤ m + c
    → Narrow (times (2 * apart u d) (over 1 (2 * 9 ^ N)) ⊞ times 2 (over 1 (2 * 9 ^ N))) (log_of m c u d N)
log_narrow m c u d N B h =
    narrow_sum (narrow_signed (ltb u d) (narrow_stretched (2 * apart u d) (artanh_narrow 1 3 N (lit< tt) (lit≤ tt))))
    (narrow_signed (ltb m c) (narrow_stretched 2 (artanh_narrow (apart m c) (m + c) N B h)))

grows : (n : ℕ) → n < 9 ^ n
grows zero = lit< tt
grows (suc n) = rw (pow-suc 9 n) (omega (arith, grows n))

-- |e|, of x = 2 ^ e * v
abbrev pub shift : Float → ℕ
shift x = apart (rise (significand x) (exponent x)) 1074

module _ (x : Float) (f : T (fits binary64 x)) (p : T (positive x)) where
  exact_narrow : (N : ℕ) → Narrow (over (shift x + 1) (9 ^ N)) (exact_ln x N)
  unfolding exact_ln
  exact_narrow N =
      let m = significand x in
      let c = centre m in
      let P : 0 < 2 * 9 ^ N = omega (arith, grows N) in
      let l = significand_low x f p in
      narrow_wider (mul-pos P P) (exact_proper x f p N) (total (shift x) (9 ^ N))
      (log_narrow m c (rise m (exponent x)) 1074 N (omega arith) (omega (arith, (near_one m l (significand_high x f p)).0)))
    where
      total : (E P : ℕ) → (times (2 * E) (over 1 (2 * P)) ⊞ times 2 (over 1 (2 * P))) ⊴ over (E + 1) P
      total E P = omega arith

  -- with N terms the ends are at most (|e| + 1) / 9 ^ N apart
  pub exact_width : (N : ℕ) → (exact_ln x N).high ⊴ ((exact_ln x N).low ⊞ over (shift x + 1) (9 ^ N))
  exact_width N = (exact_narrow N).width

  -- for every K some number of terms brings the ends within 1 / K
  pub exact_meets : (K : ℕ) → 0 < K → (N : ℕ) × ((exact_ln x N).high ⊴ ((exact_ln x N).low ⊞ over 1 K))
  exact_meets K k =
      let N = K * (shift x + 1) in
      let g : K * (shift x + 1) < 9 ^ N = grows N in
      (N, (narrow_wider {v = over (shift x + 1) (9 ^ N)} {w = over 1 K} (omega arith) (exact_proper x f p N) (omega arith) (exact_narrow N)).width)

  at_most : (r s : Fraction) → ((N : ℕ) → r ⊴ (exact_ln x N).high) → ((N : ℕ) → (exact_ln x N).low ⊴ s) → r ⊴ s
  at_most r s h l =
      ⊴-limit r s λ K k.
      let N = (exact_meets K k).0 in
      let e = exact_ln x N in
      ⊴-trans r e.high (s ⊞ over 1 K) (exact_proper x f p N).high_pos (h N)
      (⊴-trans e.high (e.low ⊞ over 1 K) (s ⊞ over 1 K) (mul-pos (exact_proper x f p N).low_pos k) (exact_meets K k).1
      (⊞-mono e.low s (over 1 K) (over 1 K) (l N) (⊴-refl (over 1 K))))

  -- no two numbers lie in all the intervals
  pub exact_only : (r s : Fraction) → ((N : ℕ) → Inside r (exact_ln x N)) → ((N : ℕ) → Inside s (exact_ln x N)) → Same r s
  exact_only r s h k =
      record { most = at_most r s (λ N. (h N).below) (λ N. (k N).above); least = at_most s r (λ N. (k N).below) (λ N. (h N).above) }

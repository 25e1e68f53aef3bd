-- What the crates above use of the logarithm, beside `ln_near`: it is a double, finite where x is finite and above 0, at most 745 in size, and 0 exactly at 1.
use Rattle.std.proofs.Common.{◌≡◌, ℕ, zero, suc, ◌+◌, ◌-◌, ◌*◌, ◌^◌, ◌<◌, ◌≤◌, Bool, true, false, cond, T, ltb, ℤ, pos, refl, ap, ◌∙◌, subst, mul-le-mul_right, zero-lt-suc, mul_comm, mul-pos, le_of_mul-le-mul_right, arith, lit<, lit≤, lt→ltb, pow_pos}
use native.Mathlib.Nat.{eq_of_mul-eq-mul_right}
use lib.Ieee.{Float, nan, inf, fin, binary64, up, down, fits}
use lib.Ieee.Fits.{round-fits, down_pos}
use lib.Ieee.Scale.{finite}
use lib.Ieee.Positive.{positive, num, den, value→cross}
use Rattle.float_bits.specs.declared.double.Kind.{Kind}
use Rattle.float_bits.specs.declared.double.Kind.TheVariants.{Positive, Zero, Negative, PlusInfinity, NotANumber}
use Rattle.float_bits.specs.double.Parts.{significand, exponent}
use Rattle.float_bits.specs.double.Kind.{kind_of}
use Rattle.float_bits.proofs.double.Bits.{same}
use Rattle.float_bits.proofs.double.Value.{significand_low, significand_high}
use Rattle.logarithm.specs.exact_log.Log.{apart, centre, rise}
use Rattle.logarithm.proofs.exact_log.Ends.{exact_parts}
use Rattle.logarithm.specs.fixed_point.Units.{Precision, chosen, whole_part, series_part, gain, loss, ln_sum, ln_parts}
use Rattle.logarithm.proofs.fixed_point.Rounding.{IsRounded}
use Rattle.logarithm.proofs.fixed_point.Law.{sum_rounded, series_small, size-le}
use Rattle.logarithm.proofs.fixed_point.Serves.{serves}
use Rattle.logarithm.proofs.split.Together.{units_some}
use Rattle.logarithm.specs.Ln.{ln_at, ln_of}
use Rattle.logarithm.proofs.Near.{at_parts, centre_pos, near_centre, steps, steps_few, ln_near}

-- the logarithm of every double is a double
sum_fits : (P : Precision) (m c u d : ℕ) → T (fits binary64 (ln_sum P m c u d))
unfolding ln_sum
sum_fits P m c u d = round-fits binary64 (ltb (gain P m c u d) (loss P m c u d)) (apart (gain P m c u d) (loss P m c u d)) (P.guard * P.unit)

kind_fits : (k : Kind) (x : Float) → T (fits binary64 x) → T (fits binary64 (ln_at chosen k x))
unfolding ln_at ln_parts fits
kind_fits (Positive p) x f = sum_fits chosen p.significand (centre p.significand) (rise p.significand p.exponent) 1074
kind_fits Zero x f = tt
kind_fits Negative x f = tt
kind_fits PlusInfinity x f = f
kind_fits NotANumber x f = f

pub ln_fits : (x : Float) → T (fits binary64 x) → T (fits binary64 (ln_of x))
unfolding ln_of
ln_fits x f = kind_fits (kind_of x) x f

-- ---- its size
bounded_by : (K U W R Q : ℕ) → 5959 ≤ K → 0 < K * U → 8 * W ≤ 5959 * U → (K + 1) * (R * U) ≤ (K + 1) * (W * Q) + R * U → R ≤ 745 * Q
bounded_by K U W R Q k P w h =
    let x : 8 * ((K + 1) * (W * Q)) ≤ 5960 * (K * U * Q) = omega (arith, mul-le-mul_right ((K + 1) * Q) w, mul-le-mul_right (U * Q) k) in
    let y : 8 * R * (K * U) ≤ 5960 * Q * (K * U) = omega arith in
    let z : 8 * R ≤ 5960 * Q = le_of_mul-le-mul_right y P in
    omega arith

rounded_bounded : (r : Float) (s : Bool) (W U : ℕ) → 0 < U → 8 * W ≤ 5959 * U → IsRounded r s W U → num r ≤ 745 * den r
rounded_bounded nan s W U P w h = absurd h
rounded_bounded (inf t) s W U P w h = absurd h
rounded_bounded (fin t m e) s W U P w h = bounded_by (2 ^ 53 - 1) U W (m * up e) (down e) (lit≤ tt) (mul-pos (lit< tt) P) w h.1.down

-- a rounded number that is 0 was 0
rounded_zero : (t s : Bool) (e : ℤ) (W U : ℕ) → IsRounded (fin t 0 e) s W U → W ≡ 0
rounded_zero t s e W U h = none (W * down e) W (down e) (down_pos e) refl (small (2 ^ 53) (W * down e) (up e) U (lit< tt) h.1.up)
  where
    small : (H w a U : ℕ) → 0 < H → H * w ≤ H * (0 * a * U) + 0 * a * U → w ≤ 0
    small H w a U P l = le_of_mul-le-mul_right {k = H} (omega arith) P

    none : (w W d : ℕ) → 0 < d → w ≡ W * d → w ≤ 0 → W ≡ 0
    none w W d D e l = omega (arith, no)
      where
        no : ¬ (1 ≤ W)
        no k = omega (arith, mul-le-mul_right d k)

-- what is added and what is taken away are the same only where both are nothing
level : (x z : Bool) (E q : ℕ) → 360 * q ≤ 146 * 2 ^ 62 → apart (cond x 0 (E * 3196577161300663914) + cond z 0 q) (cond x (E * 3196577161300663914) 0 + cond z q 0) ≡ 0 → (E ≡ 0) × (q ≡ 0)
level true true E q h e = omega arith
level true false E q h e = omega arith
level false true E q h e = omega arith
level false false E q h e = omega arith

module _ (x : Float) (f : T (fits binary64 x)) (p : T (positive x)) where
  abbrev m : ℕ
  m = significand x

  abbrev u : ℕ
  u = rise (significand x) (exponent x)

  part_small : 360 * series_part chosen m (centre m) ≤ 146 * 2 ^ 62
  part_small = series_small chosen (2 ^ 50) (2 ^ 52) serves m (centre m) (centre_pos m) (near_centre x f p) u 1074 (steps_few x f p)

  is_rounded : IsRounded (ln_sum chosen m (centre m) u 1074) (ltb (gain chosen m (centre m) u 1074) (loss chosen m (centre m) u 1074)) (apart (gain chosen m (centre m) u 1074) (loss chosen m (centre m) u 1074)) (2 ^ 62)
  is_rounded = sum_rounded chosen (2 ^ 50) (2 ^ 52) serves m (centre m) (centre_pos m) (near_centre x f p) u 1074 (steps_few x f p)

  -- of a finite double above 0 it is finite
  pub ln_finite : T (finite (ln_of x))
  ln_finite = (ln_near x f p).is_finite

  -- and at most 745 in size
  pub ln_bounded : num (ln_of x) ≤ 745 * den (ln_of x)
  ln_bounded =
      let s = size-le chosen (2 ^ 50) (2 ^ 52) serves m (centre m) (centre_pos m) (near_centre x f p) u 1074 (steps_few x f p) in
      let l : whole_part chosen u 1074 ≤ 1074 * 3196577161300663914 = mul-le-mul_right 3196577161300663914 (steps x f p) in
      subst (λ (r : Float). num r ≤ 745 * den r) (at_parts x p)
      (rounded_bounded (ln_sum chosen m (centre m) u 1074) (ltb (gain chosen m (centre m) u 1074) (loss chosen m (centre m) u 1074)) (apart (gain chosen m (centre m) u 1074) (loss chosen m (centre m) u 1074)) (2 ^ 62)
      (lit< tt) (omega (arith, s, l, part_small)) is_rounded)

  -- where it is 0, x is 1
  none : (t : Bool) (e : ℤ) → ln_of x ≡ fin t 0 e → (apart u 1074 ≡ 0) × (series_part chosen m (centre m) ≡ 0)
  unfolding gain loss
  none t e q =
      level (ltb u 1074) (ltb m (centre m)) (apart u 1074) (series_part chosen m (centre m)) part_small
      (rounded_zero t _ e _ (2 ^ 62) (subst (λ (r : Float). IsRounded r (ltb (gain chosen m (centre m) u 1074) (loss chosen m (centre m) u 1074)) (apart (gain chosen m (centre m) u 1074) (loss chosen m (centre m) u 1074)) (2 ^ 62)) (at_parts x p ∙ q) is_rounded))

  at_centre : series_part chosen m (centre m) ≡ 0 → m ≡ centre m
  unfolding series_part
  at_centre z = omega (arith, no)
    where
      no : ¬ (0 < apart m (centre m))
      no h = omega (arith, units_some (apart m (centre m)) (m + centre m) h (omega (arith, significand_low x f p)) (omega (arith, near_centre x f p, significand_high x f p)))

  is_one : (t : Bool) (e : ℤ) → ln_of x ≡ fin t 0 e → x ≡ fin false 1 (pos 0)
  unfolding fits
  is_one t e q =
      let z = none t e q in
      let c : m ≡ centre m = at_centre z.1 in
      let w : u ≡ 1074 = omega (arith, z.0) in
      let v : num x * (centre m * 2 ^ 1074) ≡ m * 2 ^ u * den x = value→cross x (m * 2 ^ u) (centre m * 2 ^ 1074) (exact_parts x f p) in
      let a : num x * (centre m * 2 ^ 1074) ≡ den x * (centre m * 2 ^ 1074) = v ∙ ap (λ (n : ℕ). n * 2 ^ u * den x) c ∙ ap (λ (n : ℕ). centre m * 2 ^ n * den x) w ∙ mul_comm (centre m * 2 ^ 1074) (den x) in
      let b : num x ≡ den x = eq_of_mul-eq-mul_right (centre m * 2 ^ 1074) (mul-pos (centre_pos m) (pow_pos 1074)) (num x) (den x) a in
      same x (fin false 1 (pos 0)) f tt p tt (omega (arith, b))

-- ---- 0 exactly at 1
pub ln_one : ln_of (fin false 1 (pos 0)) ≡ fin false 0 (pos 0)
unfolding ln_of
ln_one = refl

pub ln_zero : (x : Float) → T (fits binary64 x) → (t : Bool) (e : ℤ) → ln_of x ≡ fin t 0 e → x ≡ fin false 1 (pos 0)
unfolding ln_of ln_at kind_of
ln_zero nan f t e q = cc
ln_zero (inf true) f t e q = cc
ln_zero (inf false) f t e q = cc
ln_zero (fin s zero i) f t e q = cc
ln_zero (fin true (suc n) i) f t e q = cc
ln_zero (fin false (suc n) i) f t e q = is_one (fin false (suc n) i) f (lt→ltb 0 (suc n) (zero-lt-suc n)) t e q

-- The two parts of the logarithm put together in the program: counted from 2^63 and 1074 times ln 2 below, so that nothing is negative.
use Rattle.std.proofs.Common.{◌≡◌, ℕ, ◌+◌, ◌-◌, ◌*◌, ◌/◌, ◌%◌, ◌^◌, ◌<◌, ◌≤◌, Bool, true, false, cond, ltb, sym, refl, ap, ◌∙◌, subst, ap₂, mul-le-mul, le-div_iff_mul-le, div-mul-le_self, arith, lit<, ltb-false, ltb-true}
use lib.Ieee.{Float, binary64, round}
use Rattle.float_bits.proofs.wide_product.Tests.{same_test}
use Rattle.logarithm.specs.exact_log.Log.{apart}
use Rattle.logarithm.specs.fixed_point.Units.{chosen, ratio, horner, artanh_units, series_part, gain, loss, ln_sum}
use Rattle.logarithm.proofs.fixed_point.Horner.{fifth}
use Rattle.logarithm.proofs.fixed_point.Law.{series_small}
use Rattle.logarithm.proofs.fixed_point.Serves.{serves}
use Rattle.logarithm.specs.split.Split.{Split}

-- ---- the series' part
pub z_small : (m c z : ℕ) → 0 < c → 5 * apart m c ≤ m + c → z ≡ ratio (2 ^ 62) (apart m c) (m + c) → 5 * z ≤ 2 ^ 62
z_small m c z p n ez =
    let B : 0 < m + c = omega arith in
    fifth (2 ^ 62) (apart m c) (m + c) z B n (subst (λ (n : ℕ). n * (m + c) ≤ apart m c * 2 ^ 62) (sym ez) (div-mul-le_self (apart m c * 2 ^ 62) (m + c)))

pub part_is : (m c z s : ℕ) → z ≡ ratio (2 ^ 62) (apart m c) (m + c) → s ≡ z * horner (2 ^ 62) (z * z / 2 ^ 62) 0 10 / 2 ^ 62 → 2 * s ≡ series_part chosen m c
unfolding series_part artanh_units
part_is m c z s ez es =
    let x : s ≡ artanh_units (2 ^ 62) (apart m c) (m + c) 10 = es ∙ ap (λ (w : ℕ). w * horner (2 ^ 62) (w * w / 2 ^ 62) 0 10 / 2 ^ 62) ez in
    omega (arith, x)

pub part_small : (m c u : ℕ) → Split m c u → 360 * series_part chosen m c ≤ 146 * 2 ^ 62
part_small m c u p = series_small chosen (2 ^ 50) (2 ^ 52) serves m c p.c_some p.near_one u 1074 (omega (arith, p.few))

-- the series' sum is at least its first term, and that is some units where m is not c
pub units_some : (a b : ℕ) → 0 < a → 0 < b → b ≤ 2 ^ 62 → 0 < artanh_units (2 ^ 62) a b 10
unfolding artanh_units horner
units_some a b A B h =
    let z = ratio (2 ^ 62) a b in
    let t = z * z / 2 ^ 62 in
    let Z : 1 ≤ z = (le-div_iff_mul-le B).1 (omega arith) in
    let H : 2 ^ 62 ≤ 2 ^ 62 + horner (2 ^ 62) t 1 9 * t / 2 ^ 62 = omega arith in
    (le-div_iff_mul-le {k = 2 ^ 62} (lit< tt)).1 (omega (arith, mul-le-mul Z H))

-- ---- gain and loss against the program's number and what it is counted from
balance : (u e y f : ℕ) (x z : Bool) → e ≡ apart u 1074 → ltb u 1074 ≡ x → y < 2 ^ 63 → f ≡ cond z (2 ^ 63 - y) (2 ^ 63 + y)
    → cond x 0 (e * 3196577161300663914) + cond z 0 y + 3442347243273767819444
    ≡ cond x (e * 3196577161300663914) 0 + cond z y 0 + ((u * 744261117 + f / 4294967296) * 2 ^ 32 + (u * 4101234282 + f % 4294967296))
balance u e y f true true ee t h ef = let l : u < 1074 = ltb-true u 1074 t in let q : e + u ≡ 1074 = omega arith in omega (arith, q)
balance u e y f true false ee t h ef = let l : u < 1074 = ltb-true u 1074 t in let q : e + u ≡ 1074 = omega arith in omega (arith, q)
balance u e y f false true ee t h ef = let l : 1074 ≤ u = ltb-false u 1074 t in let q : e + 1074 ≡ u = omega arith in omega (arith, q)
balance u e y f false false ee t h ef = let l : 1074 ≤ u = ltb-false u 1074 t in let q : e + 1074 ≡ u = omega arith in omega (arith, q)

rounded_same : (G L M K : ℕ) → G + K ≡ L + M → round binary64 (ltb M K) (apart M K) (2 ^ 62) ≡ round binary64 (ltb G L) (apart G L) (2 ^ 62)
rounded_same G L M K e =
    ap₂ (λ (b : Bool) (n : ℕ). round binary64 b n (2 ^ 62)) (same_test M K G L (λ (h : M < K). omega arith) (λ (h : G < L). omega arith)) (omega arith)

module _ (m c u : ℕ) (p : Split m c u) (y : ℕ) (ey : y ≡ series_part chosen m c) where
  pub y_small : y < 2 ^ 63
  y_small = omega (arith, ey, part_small m c u p)

  pub sum_is : (f : ℕ) (r : Float) → f ≡ cond (ltb m c) (2 ^ 63 - y) (2 ^ 63 + y)
      → r ≡ round binary64 (ltb ((u * 744261117 + f / 4294967296) * 2 ^ 32 + (u * 4101234282 + f % 4294967296)) 3442347243273767819444) (apart ((u * 744261117 + f / 4294967296) * 2 ^ 32 + (u * 4101234282 + f % 4294967296)) 3442347243273767819444) (2 ^ 62)
      → r ≡ ln_sum chosen m c u 1074
  unfolding ln_sum gain loss
  sum_is f r ef q =
      let e : cond (ltb u 1074) 0 (apart u 1074 * 3196577161300663914) + cond (ltb m c) 0 (series_part chosen m c) + 3442347243273767819444
      ≡ cond (ltb u 1074) (apart u 1074 * 3196577161300663914) 0 + cond (ltb m c) (series_part chosen m c) 0 + ((u * 744261117 + f / 4294967296) * 2 ^ 32 + (u * 4101234282 + f % 4294967296)) =
      subst (λ (n : ℕ). cond (ltb u 1074) 0 (apart u 1074 * 3196577161300663914) + cond (ltb m c) 0 n + 3442347243273767819444
      ≡ cond (ltb u 1074) (apart u 1074 * 3196577161300663914) 0 + cond (ltb m c) n 0 + ((u * 744261117 + f / 4294967296) * 2 ^ 32 + (u * 4101234282 + f % 4294967296))) ey
      (balance u (apart u 1074) y f (ltb u 1074) (ltb m c) refl refl y_small ef) in
      q ∙ rounded_same (gain chosen m c u 1074) (loss chosen m c u 1074) _ 3442347243273767819444 e

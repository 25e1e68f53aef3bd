-- The error law, for any precision and any bound that its numbers serve: the logarithm in units lies within the bound of the exact one.
use Rattle.std.proofs.Common.{◌≡◌, ℕ, ◌+◌, ◌*◌, ◌^◌, ◌<◌, ◌≤◌, Bool, true, false, cond, T, ltb, sym, refl, ap, true≢false, le_trans, mul-le-mul_right, mul-le-mul, mul-le-mul_left, mul-pos, le_of_mul-le-mul_right, arith, lit<, ltb-false, ltb-true}
use lib.Ieee.{Float, nan, inf, fin, up, down}
use lib.Ieee.Scale.{finite}
use Rattle.logarithm.specs.exact_log.Fraction.{over, negated, ◌⊞◌, ◌⊴◌, Interval, ◌⊕◌, stretched, signed}
use Rattle.logarithm.specs.exact_log.Artanh.{under, den, num, artanh}
use Rattle.logarithm.specs.exact_log.Log.{apart, log_of}
use Rattle.logarithm.proofs.exact_log.Bracket.{top_num, top_den, below_all, above_all}
use Rattle.logarithm.specs.fixed_point.Units.{Precision, artanh_units, whole_part, series_part, gain, loss, ln_sum}
use Rattle.logarithm.specs.fixed_point.Near.{Near}
use Rattle.logarithm.proofs.fixed_point.Horner.{units_low, units_high, units_small}
use Rattle.logarithm.proofs.fixed_point.Rounding.{Rounded, IsRounded, rounded, rounded_finite}

-- What the numbers of a precision must meet so that the logarithm is within 1 / A + |r| / B of the exact one, for a power of two of at most 1100:
-- the terms left out come to at most `rest` units, and `bracket` terms of its series show that ln2 is right to the last unit.
pub record Serves (P : Precision) (A B : ℕ) : Type 0 where
  pub rest : ℕ
  pub bracket : ℕ
  pub unit_low : 64 ≤ P.unit
  pub guard_low : 0 < P.guard
  pub sum_high : P.guard * P.unit ≤ 2 ^ 1022
  pub long_enough : P.unit * 25 ≤ rest * (24 * under 5 P.terms)
  pub ln2_low : P.ln2 * den 3 bracket ≤ 2 * (P.guard * P.unit) * num 1 3 bracket
  pub ln2_high : 2 * (P.guard * P.unit) * top_num 1 3 bracket ≤ (P.ln2 + 1) * top_den 1 3 bracket
  pub ln2_most : P.ln2 ≤ P.guard * P.unit
  pub absolute : (1100 + 2 * (P.guard * (3 + rest))) * A ≤ P.guard * P.unit
  pub relative : B ≤ 2 ^ 53

-- ---- gain - loss units, U to one, lie within e units of the interval
pub record Around (i : Interval) (gain loss e U : ℕ) : Type 0 where
  pub above : i.low.plus * U + loss * i.low.bot ≤ (gain + e) * i.low.bot + i.low.minus * U
  pub below : gain * i.high.bot + i.high.minus * U ≤ i.high.plus * U + (loss + e) * i.high.bot

-- a size p, whose interval starts at most e units above it and ends above it, with either sign
sized : (b : Bool) (i : Interval) (p e U : ℕ) → i.low.minus ≡ 0 → i.high.minus ≡ 0 → i.low.plus * U ≤ (p + e) * i.low.bot → p * i.high.bot ≤ i.high.plus * U
    → Around (signed b i) (cond b 0 p) (cond b p 0) e U
sized false i p e U l h k j = record {
  above = omega (arith, ap (λ (x : ℕ). x * U) l);
  below = omega (arith, ap (λ (x : ℕ). x * U) h);
}
sized true i p e U l h k j = record {
  above = omega (arith, ap (λ (x : ℕ). x * U) h);
  below = omega (arith, ap (λ (x : ℕ). x * U) l);
}

-- two together
added : (i j : Interval) (g l e g' l' e' U : ℕ) → Around i g l e U → Around j g' l' e' U → Around (i ⊕ j) (g + g') (l + l') (e + e') U
added i j g l e g' l' e' U a b = record {
  above = omega (arith, mul-le-mul_right j.low.bot a.above, mul-le-mul_right i.low.bot b.above);
  below = omega (arith, mul-le-mul_right j.high.bot a.below, mul-le-mul_right i.high.bot b.below);
}

-- ---- from units to the bound: W units, R / Q rounded, and an end x / y of which W is within e units
by_bound : (H B U W R Q : ℕ) → 0 < H → B ≤ H → H * (W * Q) ≤ H * (R * U) + R * U → W * Q * B ≤ (R * B + R) * U
by_bound H B U W R Q P l h = le_of_mul-le-mul_right (omega (arith, mul-le-mul_right B h, mul-le-mul_right (R * U) l)) P

by_bound' : (H B U W R Q : ℕ) → 0 < H → B ≤ H → H * (R * U) ≤ H * (W * Q) + R * U → R * U * B ≤ W * Q * B + R * U
by_bound' H B U W R Q P l h = le_of_mul-le-mul_right (omega (arith, mul-le-mul_right B h, mul-le-mul_right (R * U) l)) P

-- p / b is at most (W + e) / U above n / b, so at most R / Q + 1 / A + R / (B Q) above it
reach_up : (A B U W e R Q p n b : ℕ) → 0 < U → e * A ≤ U → W * Q * B ≤ (R * B + R) * U → p * U ≤ (W + e) * b + n * U
    → p * (A * B * Q) ≤ (R * A * B + B * Q + R * A) * b + n * (A * B * Q)
reach_up A B U W e R Q p n b P k h l =
    let x : (W + e) * (A * B * Q) ≤ (R * A * B + B * Q + R * A) * U = omega (arith, mul-le-mul_right (B * Q) k, mul-le-mul_right A h) in
    le_of_mul-le-mul_right (omega (arith, mul-le-mul_right b x, mul-le-mul_right (A * B * Q) l)) P

reach_down : (A B U W e R Q p n b : ℕ) → 0 < U → e * A ≤ U → R * U * B ≤ W * Q * B + R * U → W * b + n * U ≤ p * U + e * b
    → R * A * B * b + n * (A * B * Q) ≤ p * (A * B * Q) + (B * Q + R * A) * b
reach_down A B U W e R Q p n b P k h l =
    let x : R * A * B * U ≤ W * (A * B * Q) + R * A * U = omega (arith, mul-le-mul_right A h) in
    le_of_mul-le-mul_right (omega (arith, mul-le-mul_right b x, mul-le-mul_right (A * B * Q) l, mul-le-mul_right (B * Q * b) k)) P

-- ---- a double that is gain - loss units, rounded
apart_of_le : (g l : ℕ) → l ≤ g → g ≡ l + apart g l
apart_of_le g l h = omega arith

apart_of_lt : (g l : ℕ) → g < l → l ≡ g + apart g l
apart_of_lt g l h = omega arith

module _ (i : Interval) (g l e U A B : ℕ) (P : 0 < U) (k : e * A ≤ U) (b : B ≤ 2 ^ 53) (a : Around i g l e U) where
  abbrev W : ℕ
  W = apart g l

  module _ (R Q : ℕ) (r : Rounded U W R Q) where
    over_up : W * Q * B ≤ (R * B + R) * U
    over_up = by_bound (2 ^ 53) B U W R Q (lit< tt) b r.up

    over_down : R * U * B ≤ W * Q * B + R * U
    over_down = by_bound' (2 ^ 53) B U W R Q (lit< tt) b r.down

    plain : l ≤ g → (i.low ⊴ (over R Q ⊞ (over 1 A ⊞ over R (B * Q)))) × (over R Q ⊴ (i.high ⊞ (over 1 A ⊞ over R (B * Q))))
    plain h =
        let x : g ≡ l + W = apart_of_le g l h in
        let u = reach_up A B U W e R Q i.low.plus i.low.minus i.low.bot P k over_up (omega (arith, a.above, ap (λ (n : ℕ). n * i.low.bot) x)) in
        let d = reach_down A B U W e R Q i.high.plus i.high.minus i.high.bot P k over_down (omega (arith, a.below, ap (λ (n : ℕ). n * i.high.bot) x)) in
        (omega (arith, mul-le-mul_right Q u), omega (arith, mul-le-mul_right Q d))

    negated_side : g < l → (i.low ⊴ (negated (over R Q) ⊞ (over 1 A ⊞ over R (B * Q)))) × (negated (over R Q) ⊴ (i.high ⊞ (over 1 A ⊞ over R (B * Q))))
    negated_side h =
        let x : l ≡ g + W = apart_of_lt g l h in
        let d = reach_down A B U W e R Q i.low.minus i.low.plus i.low.bot P k over_down (omega (arith, a.above, ap (λ (n : ℕ). n * i.low.bot) x)) in
        let u = reach_up A B U W e R Q i.high.minus i.high.plus i.high.bot P k over_up (omega (arith, a.below, ap (λ (n : ℕ). n * i.high.bot) x)) in
        (omega (arith, mul-le-mul_right Q d), omega (arith, mul-le-mul_right Q u))

  pub near_of : (r : Float) (s : Bool) → ltb g l ≡ s → IsRounded r s W U → Near A B r i
  near_of nan s t h = absurd h
  near_of (inf q) s t h = absurd h
  near_of (fin false m x) false t h = let n = plain (m * up x) (down x) h.1 (ltb-false g l t) in record { above = n.0; below = n.1 }
  near_of (fin true m x) true t h = let n = negated_side (m * up x) (down x) h.1 (ltb-true g l t) in record { above = n.0; below = n.1 }
  near_of (fin false m x) true t h = absurd (true≢false (sym h.0))
  near_of (fin true m x) false t h = absurd (true≢false h.0)

-- ---- the law
module _ (P : Precision) (A B : ℕ) (s : Serves P A B) where
  abbrev S : ℕ
  S = P.unit

  abbrev G : ℕ
  G = P.guard

  abbrev U : ℕ
  U = P.guard * P.unit

  U_pos : 0 < U
  U_pos = mul-pos s.guard_low (omega (arith, s.unit_low))

  -- ln 2, times |e|
  whole_around : (u d N : ℕ) → Around (signed (ltb u d) (stretched (2 * apart u d) (artanh 1 3 N))) (cond (ltb u d) 0 (whole_part P u d)) (cond (ltb u d) (whole_part P u d) 0) (apart u d) U
  whole_around u d N =
      let E = apart u d in
      let lo : 2 * U * num 1 3 N ≤ (P.ln2 + 1) * den 3 N = above_all (2 * U) 1 3 (P.ln2 + 1) s.bracket N (lit< tt) s.ln2_high in
      let hi : P.ln2 * top_den 1 3 N ≤ 2 * U * top_num 1 3 N = below_all (2 * U) 1 3 P.ln2 s.bracket N (lit< tt) s.ln2_low in
      sized (ltb u d) (stretched (2 * E) (artanh 1 3 N)) (whole_part P u d) E U (omega arith) (omega arith) (low_by E U P.ln2 (num 1 3 N) (den 3 N) lo) (high_by E U P.ln2 (top_num 1 3 N) (top_den 1 3 N) hi)
    where
      low_by : (E U L n d : ℕ) → 2 * U * n ≤ (L + 1) * d → 2 * E * n * U ≤ (E * L + E) * d
      low_by E U L n d h = omega (arith, mul-le-mul_left E h)

      high_by : (E U L n d : ℕ) → L * d ≤ 2 * U * n → E * L * d ≤ 2 * E * n * U
      high_by E U L n d h = omega (arith, mul-le-mul_left E h)

  module _ (m c : ℕ) (C : 0 < c) (h : 5 * apart m c ≤ m + c) where
    sum_pos : 0 < m + c
    sum_pos = omega arith

    -- 2 artanh
    series_around : (N : ℕ) → Around (signed (ltb m c) (stretched 2 (artanh (apart m c) (m + c) N))) (cond (ltb m c) 0 (series_part P m c)) (cond (ltb m c) (series_part P m c) 0) (2 * (G * (3 + s.rest))) U
    unfolding series_part
    series_around N =
        let a = apart m c in
        let b = m + c in
        let y = artanh_units S a b P.terms in
        sized (ltb m c) (stretched 2 (artanh a b N)) (2 * (G * y)) (2 * (G * (3 + s.rest))) U (omega arith) (omega arith)
        (low_by G S y (3 + s.rest) (num a b N) (den b N) (units_high S a b P.terms s.unit_low sum_pos h s.rest s.long_enough N))
        (high_by G S y (top_num a b N) (top_den a b N) (units_low S a b P.terms s.unit_low sum_pos h N))
      where
        low_by : (G S y e n d : ℕ) → S * n ≤ (y + e) * d → 2 * n * (G * S) ≤ (2 * (G * y) + 2 * (G * e)) * d
        low_by G S y e n d h = omega (arith, mul-le-mul_left G h)

        high_by : (G S y n d : ℕ) → y * d ≤ S * n → 2 * (G * y) * d ≤ 2 * n * (G * S)
        high_by G S y n d h = omega (arith, mul-le-mul_left G h)

    module _ (u d : ℕ) (few : apart u d ≤ 1100) where
      all_around : (N : ℕ) → Around (log_of m c u d N) (gain P m c u d) (loss P m c u d) (apart u d + 2 * (G * (3 + s.rest))) U
      unfolding gain loss
      all_around N = added _ _ _ _ _ _ _ _ U (whole_around u d N) (series_around N)

      within : (apart u d + 2 * (G * (3 + s.rest))) * A ≤ U
      within = le_trans (mul-le-mul_right A (omega arith)) s.absolute

      pub series_small : 360 * series_part P m c ≤ 146 * U
      unfolding series_part
      series_small = by_guard G S (artanh_units S (apart m c) (m + c) P.terms) (units_small S (apart m c) (m + c) P.terms s.unit_low sum_pos h)
        where
          by_guard : (G S y : ℕ) → 360 * y ≤ 73 * S → 360 * (2 * (G * y)) ≤ 146 * (G * S)
          by_guard G S y h = omega (arith, mul-le-mul_left G h)

      pub size-le : apart (gain P m c u d) (loss P m c u d) ≤ whole_part P u d + series_part P m c
      unfolding gain loss
      size-le = either (ltb u d) (ltb m c) (whole_part P u d) (series_part P m c)
        where
          either : (x y : Bool) (p q : ℕ) → apart (cond x 0 p + cond y 0 q) (cond x p 0 + cond y q 0) ≤ p + q
          either true true p q = omega arith
          either true false p q = omega arith
          either false true p q = omega arith
          either false false p q = omega arith

      size_fits : apart (gain P m c u d) (loss P m c u d) ≤ 2048 * U
      size_fits = omega (arith, size-le, series_small, mul-le-mul few s.ln2_most)

      pub sum_rounded : IsRounded (ln_sum P m c u d) (ltb (gain P m c u d) (loss P m c u d)) (apart (gain P m c u d) (loss P m c u d)) U
      unfolding ln_sum
      sum_rounded = rounded U U_pos s.sum_high (ltb (gain P m c u d) (loss P m c u d)) (apart (gain P m c u d) (loss P m c u d)) size_fits

      pub sum_finite : T (finite (ln_sum P m c u d))
      sum_finite = rounded_finite (ln_sum P m c u d) (ltb (gain P m c u d) (loss P m c u d)) (apart (gain P m c u d) (loss P m c u d)) U sum_rounded

      pub sum_near : (N : ℕ) → Near A B (ln_sum P m c u d) (log_of m c u d N)
      sum_near N =
          near_of (log_of m c u d N) (gain P m c u d) (loss P m c u d) (apart u d + 2 * (G * (3 + s.rest))) U A B U_pos within s.relative (all_around N)
          (ln_sum P m c u d) _ refl sum_rounded

-- A significand and its centre: what the program makes of a double's parts.
use Rattle.std.proofs.Common.{◌≡◌, ℕ, ◌+◌, ◌*◌, ◌/◌, ◌^◌, ◌<◌, ◌≤◌, Bool, true, false, cond, ltb, sym, refl, ap, ◌∙◌, ap₂, subst₂, arith, lit<, lit≤, ltb-false, ltb-true, le-ltb, lt-ltb}
use lib.Ieee.{Float}
use Rattle.float_bits.specs.declared.double.Parts.{Parts}
use Rattle.float_bits.specs.double.Parts.{InPlace}
use Rattle.logarithm.specs.exact_log.Log.{apart, centre, rise}
use Rattle.logarithm.proofs.exact_log.Ends.{near_one}
use Rattle.logarithm.specs.fixed_point.Units.{chosen, ratio, horner, series_part, ln_sum, ln_parts}
use Rattle.logarithm.specs.split.Split.{Split}
use Rattle.logarithm.proofs.split.Together.{z_small, part_is, part_small}
use Rattle.logarithm.proofs.Near.{few}

-- ---- the centre and the rise, by a flag
pub centred : (m t k : ℕ) → k ≡ cond (ltb 6755399441055743 m) 1 0 → (4503599627370496 * (1 + k) ≡ centre m) × (t + k ≡ rise m t)
centred m t k e = go (ltb 6755399441055743 m) refl
  where
    go : (b : Bool) → ltb 6755399441055743 m ≡ b → (4503599627370496 * (1 + k) ≡ centre m) × (t + k ≡ rise m t)
    go true q =
        let o : k ≡ 1 = e ∙ ap (λ (b : Bool). cond b 1 0) q in
        let n : ltb m (3 * 2 ^ 51) ≡ false = le-ltb m (3 * 2 ^ 51) (omega (arith, ltb-true 6755399441055743 m q)) in
        (ap (λ (n : ℕ). 4503599627370496 * (1 + n)) o ∙ ap (λ (b : Bool). cond b (2 ^ 52) (2 ^ 53)) (sym n), ap (λ (n : ℕ). t + n) o ∙ ap (λ (b : Bool). t + cond b 0 1) (sym n))
    go false q =
        let o : k ≡ 0 = e ∙ ap (λ (b : Bool). cond b 1 0) q in
        let n : ltb m (3 * 2 ^ 51) ≡ true = lt-ltb m (3 * 2 ^ 51) (omega (arith, ltb-false 6755399441055743 m q)) in
        (ap (λ (n : ℕ). 4503599627370496 * (1 + n)) o ∙ ap (λ (b : Bool). cond b (2 ^ 52) (2 ^ 53)) (sym n), ap (λ (n : ℕ). t + n) o ∙ ap (λ (b : Bool). t + cond b 0 1) (sym n))

centre_le : (m : ℕ) → (0 < centre m) × (centre m ≤ 2 ^ 53)
centre_le m = go (ltb m (3 * 2 ^ 51))
  where
    go : (b : Bool) → (0 < cond b (2 ^ 52) (2 ^ 53)) × (cond b (2 ^ 52) (2 ^ 53) ≤ 2 ^ 53)
    go true = (lit< tt, lit≤ tt)
    go false = (lit< tt, lit≤ tt)

rise_le : (m t : ℕ) → rise m t ≤ t + 1
rise_le m t = go (ltb m (3 * 2 ^ 51))
  where
    go : (b : Bool) → t + cond b 0 1 ≤ t + 1
    go true = omega arith
    go false = omega arith

module _ (p : Parts) (i : InPlace p) (k : ℕ) (e : k ≡ cond (ltb 6755399441055743 p.significand) 1 0) where
  abbrev m : ℕ
  m = p.significand

  pub split : Split m (4503599627370496 * (1 + k)) (p.exponent + k)
  split =
      subst₂ (λ (c u : ℕ). Split m c u) (sym (centred m p.exponent k e).0) (sym (centred m p.exponent k e).1)
      record {
        near_one = (near_one m i.low i.high).0;
        m_most = i.high;
        c_some = (centre_le m).0;
        c_most = (centre_le m).1;
        few = few m p.exponent i.most;
        u_most = omega (arith, rise_le m p.exponent, i.most);
      }

  pub quotient_asks : (5 * apart m (4503599627370496 * (1 + k)) ≤ m + 4503599627370496 * (1 + k)) × (m < 2 ^ 53) × (0 < 4503599627370496 * (1 + k)) × (4503599627370496 * (1 + k) ≤ 2 ^ 53)
  quotient_asks = (split.near_one, split.m_most, split.c_some, split.c_most)

  pub quotient_is : (r : ℕ) → r ≡ ratio (2 ^ 62) (apart m (4503599627370496 * (1 + k))) (m + 4503599627370496 * (1 + k)) → r ≡ ratio (2 ^ 62) (apart m (centre m)) (m + centre m)
  quotient_is r q = q ∙ ap (λ (c : ℕ). ratio (2 ^ 62) (apart m c) (m + c)) (centred m p.exponent k e).0

  pub part_at : (s : ℕ) → 2 * s ≡ series_part chosen m (centre m) → 2 * s ≡ series_part chosen m (4503599627370496 * (1 + k))
  part_at s q = q ∙ ap (λ (c : ℕ). series_part chosen m c) (sym (centred m p.exponent k e).0)

  pub parts_are : (r : Float) → r ≡ ln_sum chosen m (4503599627370496 * (1 + k)) (p.exponent + k) 1074 → r ≡ ln_parts chosen p
  unfolding ln_parts
  parts_are r q = q ∙ ap₂ (λ (c u : ℕ). ln_sum chosen m c u 1074) (centred m p.exponent k e).0 (centred m p.exponent k e).1

-- ---- the sum of the series
module _ (p : Parts) (i : InPlace p) (z : ℕ) (e : z ≡ ratio (2 ^ 62) (apart p.significand (centre p.significand)) (p.significand + centre p.significand)) where
  pub ratio_small : 5 * z ≤ 2 ^ 62
  ratio_small = z_small p.significand (centre p.significand) z (centre_le p.significand).0 (near_one p.significand i.low i.high).0 e

  pub series_is : (s : ℕ) → s ≡ z * horner (2 ^ 62) (z * z / 2 ^ 62) 0 10 / 2 ^ 62 → 2 * s ≡ series_part chosen p.significand (centre p.significand)
  series_is s q = part_is p.significand (centre p.significand) z s e q

pub sum_fits : (p : Parts) → InPlace p → (s : ℕ) → 2 * s ≡ series_part chosen p.significand (centre p.significand) → 2 * s < 2 ^ 64
sum_fits p i s e =
    let m = p.significand in
    let x : Split m (centre m) (rise m p.exponent) = record {
      near_one = (near_one m i.low i.high).0;
      m_most = i.high;
      c_some = (centre_le m).0;
      c_most = (centre_le m).1;
      few = few m p.exponent i.most;
      u_most = omega (arith, rise_le m p.exponent, i.most);
    } in
    omega (arith, part_small m (centre m) (rise m p.exponent) x)

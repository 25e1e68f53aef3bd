-- The root of a double above 0 with given parts, as a value.
use mathlib.Core.Path.{◌≡◌, refl, ap, sym, ◌∙◌, subst}
use mathlib.Core.Bool.{false}
use Prim.Native.Nat.{ℕ, zero, suc, ◌+◌, ◌-◌, ◌*◌, ◌/◌, ◌%◌, ◌^◌, ◌<◌}
use native.Mathlib.Nat.{pow-suc}
use native.Mathlib.Omega.{arith}
use lib.Dec.{lit<}
use lib.Pow.{pow-add}
use lib.Ieee.{Float}
use lib.Ieee.Exact.{HasValue, odd_sign}
use Rattle.float_bits.specs.declared.double.Parts.{Parts}
use Rattle.float_bits.specs.declared.double.Kind.{Kind}
use Rattle.float_bits.specs.double.Kind.{kind_of}
use Rattle.float_bits.specs.double.Parts.{InPlace}
use Rattle.float_bits.proofs.double.Value.{rescale}
use Rattle.square_root.specs.whole_root.Whole.{rounded}
use Rattle.square_root.proofs.whole_root.Whole.{Near}
use Rattle.square_root.specs.parts.Radicand.{radicand, half, root_of}
use Rattle.square_root.proofs.parts.Value.{low, near, s_low, s_high}
use Rattle.square_root.specs.Root.{sqrt_at, sqrt_of}
use Rattle.square_root.specs.Nearest.{Nearest, IsRoot}

-- ---- by the odd squares
pub near→nearest : (s n : ℕ) → 0 < s → Near s n → Nearest s n
near→nearest s n p a = record { above = twice s n (s - 1) (omega arith) a.0; below = omega (arith, a.1) }
  where
    twice : (s n w : ℕ) → s ≡ w + 1 → s * s < n + s → (2 * s - 1) * (2 * s - 1) < 4 * n
    twice s n w e h =
        let x : 2 * s - 1 ≡ 2 * w + 1 = omega arith in
        subst (λ (y : ℕ). y * y < 4 * n) (sym x) (omega (arith, subst (λ (y : ℕ). y * y < n + y) e h))

-- ---- powers of four
pub four : (h : ℕ) → 4 ^ h ≡ 2 ^ h * 2 ^ h
four zero = refl
four (suc h) = omega (arith, four h, pow-suc 4 h, pow-suc 2 h, ap (λ (x : ℕ). x * x) (pow-suc 2 h))

whole_power : (t : ℕ) → 2 ^ (t % 2) * 4 ^ (t / 2) ≡ 2 ^ t
whole_power t =
    let h = t / 2 in
    let e : t % 2 + (h + h) ≡ t = omega arith in
    ap (λ (x : ℕ). 2 ^ (t % 2) * x) (four h ∙ sym (pow-add 2 h h)) ∙ sym (pow-add 2 (t % 2) (h + h)) ∙ ap (λ (x : ℕ). 2 ^ x) e

module _ (p : Parts) (i : InPlace p) where
  abbrev s : ℕ
  s = rounded (radicand p)

  operand_is : radicand p * 4 ^ half p * 2 ^ 1126 ≡ p.significand * 2 ^ p.exponent * 4 ^ 589
  unfolding radicand half
  operand_is = grouped p.significand (2 ^ (p.exponent % 2)) (4 ^ (p.exponent / 2)) (2 ^ p.exponent) (2 ^ 52) (2 ^ 1126) (4 ^ 589) (whole_power p.exponent) refl
    where
      grouped : (q B F E C A D : ℕ) → B * F ≡ E → C * A ≡ D → q * B * C * F * A ≡ q * E * D
      grouped q B F E C A D e f = omega (arith, ap (λ (x : ℕ). q * x * (C * A)) e, ap (λ (x : ℕ). q * E * x) f)

  result_is : s * 2 ^ half p * 2 ^ 1074 ≡ s * 2 ^ (half p + 485) * 2 ^ 589
  result_is = grouped s (2 ^ half p) (2 ^ 485) (2 ^ 589) (2 ^ 1074) (2 ^ (half p + 485)) refl (pow-add 2 (half p) 485)
    where
      grouped : (r h a c d k : ℕ) → a * c ≡ d → k ≡ h * a → r * h * d ≡ r * k * c
      grouped r h a c d k e f = omega (arith, ap (λ (x : ℕ). r * h * x) e, ap (λ (x : ℕ). r * x * c) f)

  pub parts_root : (x : Float) → HasValue x false (p.significand * 2 ^ p.exponent) (2 ^ 1126) → IsRoot x (root_of p)
  unfolding root_of
  parts_root x v = record {
    n = radicand p;
    h = half p;
    s = s;
    operand = rescale x false (p.significand * 2 ^ p.exponent) (2 ^ 1126) (radicand p * 4 ^ half p) (4 ^ 589) (lit< tt) operand_is v;
    result = rescale (root_of p) false (s * 2 ^ (half p + 485)) (2 ^ 1074) (s * 2 ^ half p) (2 ^ 589) (lit< tt) result_is (odd_sign 53 false s (half p + 485) 1074);
    operand_low = low p i;
    digits_low = s_low p i;
    digits_high = s_high p i;
    nearest = near→nearest s (radicand p) (omega (arith, s_low p i)) (near p i);
  }

-- ---- by the kind that was told
pub at_kind : (x : Float) {k : Kind} (j : Kind) → k ≡ kind_of x → k ≡ j → sqrt_at j x ≡ sqrt_of x
unfolding sqrt_of
at_kind x j e f = ap (λ (i : Kind). sqrt_at i x) (sym f ∙ e)

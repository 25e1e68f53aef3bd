-- The root of a double above 0 with given parts, and its bits.
use mathlib.Core.Path.{◌≡◌, ap, ◌∙◌, subst}
use mathlib.Core.Bool.{false}
use Prim.Native.Nat.{ℕ, zero, suc, ◌+◌, ◌-◌, ◌*◌, ◌/◌, ◌%◌, ◌^◌, ◌≤◌, ◌<◌}
use native.Mathlib.Nat.{mod-lt}
use native.Mathlib.Omega.{arith}
use lib.Dec.{T, lit<}
use lib.Ieee.{Float, binary64, fits, odd, of_bits}
use lib.Ieee.Bits.{of_bits-fits}
use Rattle.float_bits.specs.declared.double.Parts.{Parts}
use Rattle.float_bits.specs.double.Parts.{InPlace}
use Rattle.float_bits.proofs.double.Bits.{normal_bits}
use Rattle.square_root.specs.whole_root.Whole.{rounded}
use Rattle.square_root.proofs.whole_root.Whole.{Near, rounded_near, digits_low, digits_high}
use Rattle.square_root.specs.parts.Radicand.{radicand, half, root_of}

-- ---- q * 2 ^ b, for 53 digits q and a b of 0 or 1
pub doubled_range : (q b : ℕ) → 2 ^ 52 ≤ q → q < 2 ^ 53 → b < 2 → (2 ^ 52 ≤ q * 2 ^ b) × (q * 2 ^ b ≤ 2 ^ 54 - 2)
doubled_range q zero l h k = (omega arith, omega arith)
doubled_range q (suc zero) l h k = (omega arith, omega arith)
doubled_range q (suc (suc b)) l h k = omega arith

module _ (p : Parts) (i : InPlace p) where
  abbrev m : ℕ
  m = p.significand * 2 ^ (p.exponent % 2)

  pub m_range : (2 ^ 52 ≤ m) × (m ≤ 2 ^ 54 - 2)
  m_range = doubled_range p.significand (p.exponent % 2) i.low i.high (mod-lt p.exponent (lit< tt))

  pub shifted : m % 2 ^ 64 ≡ m
  shifted = omega (arith, m_range)

  pub low : 2 ^ 104 ≤ radicand p
  unfolding radicand
  low = omega (arith, m_range)

  high : radicand p ≤ 2 ^ 106 - 2 ^ 53
  unfolding radicand
  high = omega (arith, m_range)

  abbrev s : ℕ
  s = rounded (radicand p)

  pub near : Near s (radicand p)
  near = rounded_near (radicand p) (omega (arith, low)) (omega (arith, high))

  pub s_low : 2 ^ 52 ≤ s
  s_low = digits_low s (radicand p) low near

  pub s_high : s < 2 ^ 53
  s_high = digits_high s (radicand p) high near

  half_le : half p ≤ 1049
  unfolding half
  half_le = omega (arith, i.most)

  -- ---- what the program makes of it
  module _ (d x : ℕ) (f : d ≡ m) (e : x ≡ rounded (d * 2 ^ 52)) where
    is : x ≡ s
    unfolding radicand
    is = e ∙ ap (λ (y : ℕ). rounded (y * 2 ^ 52)) f

    pub x_high : x < 2 ^ 53
    x_high = omega (arith, is, s_high)

    pub bits_are : of_bits binary64 ((p.exponent / 2 + 485) * 4503599627370496 + x) ≡ root_of p
    unfolding root_of half
    bits_are =
        normal_bits (p.exponent / 2 + 485) x (omega (arith, i.most)) (omega (arith, is, s_low)) x_high ∙ ap (λ (y : ℕ). odd 53 false y (p.exponent / 2 + 485) 1074) is

  -- ---- the root is a double
  pub root_of_fits : T (fits binary64 (root_of p))
  unfolding root_of
  root_of_fits =
      subst (λ (y : Float). T (fits binary64 y)) (normal_bits (half p + 485) s (omega (arith, half_le)) s_low s_high)
      (of_bits-fits binary64 ((half p + 485) * 4503599627370496 + s))

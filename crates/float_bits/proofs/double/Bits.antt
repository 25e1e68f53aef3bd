-- Patterns that are numbers, floats that are numbers, and doubles of the same size.
use mathlib.Core.Path.{◌≡◌, ap, ap₂, sym, ◌∙◌, subst}
use mathlib.Core.Bool.{Bool, true, false, not, cond, true≢false}
use Prim.Native.Nat.{ℕ, suc, ◌+◌, ◌-◌, ◌*◌, ◌/◌, ◌%◌, ◌^◌, ◌≤◌, ◌<◌}
use native.Mathlib.Omega.{arith}
use borrow.Author.Tests.{le-ltb, ne_eqb, lt-leb}
use lib.Dec.{T, leb, eqb}
use lib.Ieee.{Float, nan, inf, fin, binary64, up, down, fits, size, eq, is_nan, nan_bits, to_bits, odd, of_fields, of_bits}
use lib.Ieee.Bits.{of_bits-to_bits, nan_bits_above}
use lib.Ieee.Fits.{down_pos}
use lib.Ieee.Nearest.{div_same}
use lib.Ieee.Positive.{positive, num, den}

-- a pattern up to that of +infinity, with either sign, is no NaN's
pub no_nan_bits : (n : ℕ) → n % 2 ^ 63 ≤ 2047 * 2 ^ 52 → T (not (nan_bits binary64 n))
no_nan_bits n h = subst (λ (b : Bool). T (not b)) (sym (nan_bits_above binary64 n ∙ le-ltb 9218868437227405312 (n % 2 ^ 63) h)) tt

pub number_below : (n : ℕ) → n ≤ 2047 * 2 ^ 52 → T (not (nan_bits binary64 n))
number_below n h = no_nan_bits n (omega arith)

-- a float that equals itself is no NaN
pub equal_itself : (x : Float) → eq x x ≡ true → T (not (is_nan x))
unfolding eq is_nan
equal_itself nan t = absurd (true≢false (sym t))
equal_itself (inf s) t = tt
equal_itself (fin s m e) t = tt

-- ---- the bits of a normal double
fields_at : (x t : ℕ) → suc x < 2047 → of_fields binary64 false (suc x) t ≡ odd 53 false (2 ^ 52 + t) x 1074
unfolding of_fields
fields_at x t h = ap (λ (b : Bool). cond b (cond (eqb t 0) (inf false) nan) (odd 53 false (2 ^ 52 + t) x 1074)) (ne_eqb (suc x) 2047 (λ (e : suc x ≡ 2047). omega arith))

pub normal_bits : (k s : ℕ) → k < 2046 → 2 ^ 52 ≤ s → s < 2 ^ 53 → of_bits binary64 (k * 4503599627370496 + s) ≡ odd 53 false s k 1074
unfolding of_bits
normal_bits k s h l u =
    let n = k * 4503599627370496 + s in
    let a : leb (2 ^ 63) n ≡ false = lt-leb (2 ^ 63) n (omega arith) in
    let b : n % 2 ^ 63 / 2 ^ 52 ≡ suc k = omega arith in
    let c : n % 2 ^ 52 ≡ s - 2 ^ 52 = omega arith in
    let d : 2 ^ 52 + (s - 2 ^ 52) ≡ s = omega arith in
    ap (λ (x : Bool). of_fields binary64 x (n % 2 ^ 63 / 2 ^ 52) (n % 2 ^ 52)) a
    ∙ ap₂ (λ (x y : ℕ). of_fields binary64 false x y) b c
    ∙ fields_at k (s - 2 ^ 52) (omega arith)
    ∙ ap (λ (x : ℕ). odd 53 false x k 1074) d

-- ---- two doubles above 0 of the same size are the same
same_bits : (x y : Float) → T (positive x) → T (positive y) → num x * den y ≡ num y * den x → to_bits binary64 x ≡ to_bits binary64 y
unfolding to_bits
same_bits nan y p q e = absurd p
same_bits (inf s) y p q e = absurd p
same_bits (fin true m i) y p q e = absurd p
same_bits (fin false m i) nan p q e = absurd q
same_bits (fin false m i) (inf s) p q e = absurd q
same_bits (fin false m i) (fin true n j) p q e = absurd q
same_bits (fin false m i) (fin false n j) p q e =
    ap (λ (z : ℕ). 0 + (size z - 53) * 2 ^ 52 + z / 2 ^ (size z - 53))
    (div_same (m * up i * 2 ^ 1074) (down i) (n * up j * 2 ^ 1074) (down j) (down_pos i) (down_pos j) (scaled (m * up i) (down i) (n * up j) (down j) (2 ^ 1074) e))
  where
    scaled : (a c b d k : ℕ) → a * d ≡ b * c → a * k * d ≡ b * k * c
    scaled a c b d k e = omega (arith, ap (λ (z : ℕ). z * k) e)

pub same : (x y : Float) → T (fits binary64 x) → T (fits binary64 y) → T (positive x) → T (positive y) → num x * den y ≡ num y * den x → x ≡ y
same x y f g p q e = sym (of_bits-to_bits binary64 x f) ∙ ap (of_bits binary64) (same_bits x y p q e) ∙ of_bits-to_bits binary64 y g

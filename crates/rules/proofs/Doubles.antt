-- A double against 0, and the root of one that is not refused (document 01, Records 4 and 6).
use Prim.Native.Nat.{ℕ, zero, suc, ◌+◌, ◌*◌, ◌^◌, ◌≤◌, ◌<◌}
use mathlib.Core.Path.{◌≡◌, refl, sym, ap, subst, ◌∙◌}
use mathlib.Core.Bool.{Bool, true, false, ◌&&◌, ◌||◌, true≢false}
use mathlib.Core.Logic.{◌⊎◌, inl, inr, ⊎_elim, by_cases}
use native.Mathlib.Decide.{dec_lt}
use native.Mathlib.Nat.{mul-le-mul, mul-le-mul_right, mul-pos, le_of_mul-le-mul_right, zero-lt-suc}
use native.Mathlib.Omega.{arith}
use lib.Dec.{T, ltb, eqb, lt→ltb, lit<}
use lib.IntN.{negsuc}
use lib.Pow.{pow_pos}
use lib.Ieee as Ieee
use lib.Ieee.{Float, nan, inf, fin, binary64, fits, up, down, mul, round}
use lib.Ieee.Fits.{sub-fits, up_pos, down_pos}
use lib.Ieee.Order.{round_mono}
use lib.Ieee.Positive.{positive, value→cross, above, above_of_le}
use borrow.Author.Tests.{lt-ltb, le-ltb, ne_eqb}
use Rattle.square_root.specs.Root.{sqrt_of}
use Rattle.square_root.specs.Nearest.{IsRoot}
use Rattle.square_root.proofs.Theorems.{sqrt_is_root, sqrt_positive}
use Rattle.rules.specs.Arithmetic.{ieee}
use Rattle.rules.specs.Sums.{chain, subtract_from}

abbrev pub Double : Float → Type 0
Double x = T (fits binary64 x)

-- a double less any products is a double
pub chain_fits : (s : Float) (a b : ℕ → Float) (n : ℕ) → Double s → Double (chain ieee s a b n)
unfolding subtract_from
chain_fits s a b zero f = f
chain_fits s a b (suc n) f = sub-fits binary64 (chain ieee s a b n) (ieee.times (a n) (b n))

-- ---- against 0: NaN, above 0 (an infinity included), or at most 0
data Sign (x : Float) : Type 0 where
  is_nan : x ≡ nan → ieee.above x ≡ false → ieee.refused x ≡ false → Sign x
  is_above : T (above x) → ieee.above x ≡ true → ieee.refused x ≡ false → ieee.null x ≡ false → Sign x
  at_most : (T (above x) → ⊥) → ieee.above x ≡ false → ieee.refused x ≡ true → Sign x

-- ±0 and a number below 0 are at most 0; b is 0 in their units
nothing : (a b : ℕ) → a ≡ 0 → b ≡ 0 → (ltb a b || (eqb a b && true)) ≡ true
nothing a b e f = rw (e, f) refl

negative : (a b : ℕ) → b ≡ 0 → (ltb 0 (a + b) || (eqb a b && eqb a 0)) ≡ true
negative a b e =
    by_cases (dec_lt 0 a) (λ p. rw (lt-ltb 0 (a + b) (omega arith)) refl)
    (λ p. let z : a ≡ 0 = omega arith in rw (e, z) refl)

sign : (x : Float) → Sign x
unfolding Ieee.of_bits Ieee.lt Ieee.eq Ieee.le
sign nan = is_nan refl refl refl
sign (inf false) = is_above tt refl refl refl
sign (inf true) = at_most (λ t. t) refl refl
sign (fin true m e) = at_most (λ t. t) refl (negative (m * up e * 1) (0 * 1 * down e) (omega arith))
sign (fin false zero e) =
    at_most (λ t. t) (le-ltb (0 * 1 * down e) (0 * up e * 1) (omega arith)) (nothing (0 * up e * 1) (0 * 1 * down e) (omega arith) (omega arith))
sign (fin false (suc m) e) =
    let k : 0 < suc m * up e = mul-pos (zero-lt-suc m) (up_pos e) in
    let n : eqb (suc m * up e * 1) (0 * 1 * down e) ≡ false = ne_eqb (suc m * up e * 1) (0 * 1 * down e) (λ q. omega arith) in
    is_above (lt→ltb 0 (suc m) (zero-lt-suc m)) (lt-ltb (0 * 1 * down e) (suc m * up e * 1) (omega arith))
    (rw (le-ltb (suc m * up e * 1) (0 * 1 * down e) (omega arith), n) refl) (rw n refl)

clash : {X : Type 0} {b : Bool} → b ≡ true → b ≡ false → X
clash e f = absurd (true≢false (sym e ∙ f))

-- what is above 0 by its sign and digits is so by every test
above_tests : (x : Float) → T (above x) → (ieee.above x ≡ true) × (ieee.refused x ≡ false) × (ieee.null x ≡ false)
above_tests x t = go (sign x)
  where
    go : Sign x → (ieee.above x ≡ true) × (ieee.refused x ≡ false) × (ieee.null x ≡ false)
    go (is_nan q a r) = absurd (subst (λ (y : Float). T (above y)) q t)
    go (is_above s a r n) = (a, r, n)
    go (at_most s a r) = absurd (s t)

-- what is not refused is above 0 or NaN
not_refused : (x : Float) → ieee.refused x ≡ false → T (above x) ⊎ (x ≡ nan)
not_refused x e = go (sign x)
  where
    go : Sign x → T (above x) ⊎ (x ≡ nan)
    go (is_nan q a r) = inr q
    go (is_above s a r n) = inl s
    go (at_most s a r) = clash r e

pub refused_not_above : (x : Float) → ieee.refused x ≡ true → ieee.above x ≡ false
refused_not_above x e = go (sign x)
  where
    go : Sign x → ieee.above x ≡ false
    go (is_nan q a r) = a
    go (is_above s a r n) = clash e r
    go (at_most s a r) = a

pub above_not_refused : (x : Float) → ieee.above x ≡ true → ieee.refused x ≡ false
above_not_refused x e = go (sign x)
  where
    go : Sign x → ieee.refused x ≡ false
    go (is_nan q a r) = r
    go (is_above s a r n) = r
    go (at_most s a r) = clash e a

abbrev pub AboveOrNaN : Float → Type 0
AboveOrNaN x = (ieee.above x ≡ true) ⊎ (x ≡ nan)

-- What is above 0 or NaN is not 0,
pub never_null : (x : Float) → AboveOrNaN x → ieee.null x ≡ false
unfolding Ieee.eq
never_null x (inr q) = rw q refl
never_null x (inl e) = go (sign x)
  where
    go : Sign x → ieee.null x ≡ false
    go (is_nan q a r) = clash e a
    go (is_above s a r n) = n
    go (at_most s a r) = clash e a

-- nor is it refused
pub never_refused : (x : Float) → AboveOrNaN x → ieee.refused x ≡ false
unfolding Ieee.le
never_refused x (inr q) = rw q refl
never_refused x (inl e) = above_not_refused x e

-- ---- the root of a double that is not refused
positive_above : (x : Float) → T (positive x) → T (above x)
positive_above nan p = p
positive_above (inf s) p = absurd p
positive_above (fin true m e) p = p
positive_above (fin false m e) p = p

root_above : (x : Float) → Double x → T (above x) → T (above (sqrt_of x))
unfolding sqrt_of
root_above nan f t = t
root_above (inf false) f t = t
root_above (inf true) f t = absurd t
root_above (fin true m e) f t = absurd t
root_above (fin false m e) f t = positive_above (sqrt_of (fin false m e)) (sqrt_positive (fin false m e) f t)

-- It is above 0 or NaN,
pub root_of_accepted : (x : Float) → Double x → ieee.refused x ≡ false → AboveOrNaN (sqrt_of x)
unfolding sqrt_of
root_of_accepted x f e = ⊎_elim (λ t. inl (above_tests (sqrt_of x) (root_above x f t)).0) (λ q. inr (ap sqrt_of q)) (not_refused x e)

-- and above 0 exactly where the double is.
pub root_above_same : (x : Float) → Double x → ieee.refused x ≡ false → ieee.above (sqrt_of x) ≡ ieee.above x
unfolding sqrt_of Ieee.lt
root_above_same x f e = ⊎_elim (λ t. (above_tests (sqrt_of x) (root_above x f t)).0 ∙ sym (above_tests x t).0) (λ q. rw q refl) (not_refused x e)

-- ---- its square: the root of the least double is far from the least
-- the least double above 0
abbrev least : Float
least = fin false 1 (negsuc 1073)

-- rounding does not change it
least_is : round binary64 false 1 (2 ^ 1074) ≡ least
unfolding round
least_is = refl

-- a / d is s * E / (C * G) with s at least C and E at least 1, so at least 1 / G, and its square at least 1 / (G * G)
least_reached : (a d s E C G D H : ℕ) → 0 < C → D ≡ C * G → G * G ≡ H → C ≤ s → 1 ≤ E → a * D ≡ s * E * d → 1 * (d * d) ≤ a * a * H
least_reached a d s E C G D H c eD eH l m e =
    let p : d * C ≤ a * G * C = omega (arith, e, ap (λ (z : ℕ). a * z) eD, mul-le-mul_right d (mul-le-mul l m)) in
    let q : d ≤ a * G = le_of_mul-le-mul_right p c in
    omega (arith, mul-le-mul q q, ap (λ (z : ℕ). a * a * z) eH)

-- a rounded root is at least 2 ^ -537, so that its square is at least the least double, and does not round to 0
root_square : (x r : Float) → IsRoot x r → T (positive r) → T (above (ieee.times r r))
unfolding mul
root_square x nan i p = absurd p
root_square x (inf s) i p = absurd p
root_square x (fin true m e) i p = absurd p
root_square x (fin false m e) i p =
    above_of_le least (round binary64 false (m * up e * (m * up e)) (down e * down e)) tt
    (subst (λ (z : Float). T (Ieee.le z (round binary64 false (m * up e * (m * up e)) (down e * down e)))) least_is
    (round_mono binary64 1 (2 ^ 1074) (m * up e * (m * up e)) (down e * down e) (pow_pos 1074) (mul-pos (down_pos e) (down_pos e))
    (least_reached (m * up e) (down e) i.s (2 ^ i.h) (2 ^ 52) (2 ^ 537) (2 ^ 589) (2 ^ 1074) (lit< tt) refl refl i.digits_low (pow_pos i.h)
    (value→cross (fin false m e) (i.s * 2 ^ i.h) (2 ^ 589) i.result))))

square_of : (x : Float) → Double x → T (above x) → T (above (ieee.times (sqrt_of x) (sqrt_of x)))
unfolding sqrt_of mul
square_of nan f t = t
square_of (inf false) f t = t
square_of (inf true) f t = absurd t
square_of (fin true m e) f t = absurd t
square_of (fin false m e) f t = root_square (fin false m e) (sqrt_of (fin false m e)) (sqrt_is_root (fin false m e) f t) (sqrt_positive (fin false m e) f t)

-- The square of the root of a double that is not refused is not refused (Record 6).
pub square_above : (x : Float) → Double x → ieee.refused x ≡ false → ieee.refused (ieee.times (ieee.root x) (ieee.root x)) ≡ false
unfolding sqrt_of mul Ieee.le
square_above x f e = ⊎_elim (λ t. (above_tests (ieee.times (sqrt_of x) (sqrt_of x)) (square_of x f t)).1) (λ q. rw q refl) (not_refused x e)

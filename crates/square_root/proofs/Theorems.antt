-- What the square root of a double is: the nearest double to the root.
use mathlib.Core.Path.{◌≡◌, refl, ap, sym, subst}
use mathlib.Core.Bool.{Bool, true, false}
use Prim.Native.Nat.{ℕ, zero, suc, ◌+◌, ◌*◌, ◌^◌, ◌≤◌, ◌<◌}
use native.Mathlib.Nat.{mul-le-mul, mul-le-mul_left, mul-le-mul_right, mul-pos, zero-lt-suc, one-le-pow}
use native.Mathlib.Omega.{arith}
use lib.Dec.{T, lt→ltb, lit≤, lit<}
use lib.Pow.{pow_pos}
use lib.IntN.{ℤ, pos}
use lib.Ieee.{Float, nan, inf, fin, binary64, fits, to_bits, mul, of_int}
use lib.Ieee.Fits.{nan-fits, mul-fits, of_int-fits}
use lib.Ieee.Back.{round_whole}
use lib.Ieee.Exact.{HasValue}
use lib.Ieee.Positive.{positive, num, den, den_pos, own_value, value→cross, value_pos, positive_of_value}
use Rattle.float_bits.specs.double.Parts.{parts_of, significand, exponent}
use Rattle.float_bits.specs.declared.double.Parts.{Parts}
use Rattle.float_bits.specs.declared.double.Kind.TheVariants.{Positive}
use Rattle.float_bits.proofs.double.Tests.{at_positive}
use Rattle.float_bits.specs.double.Parts.{InPlace}
use Rattle.float_bits.proofs.double.Value.{in_place, value, rescale}
use Rattle.float_bits.proofs.double.Bits.{same}
use Rattle.square_root.specs.parts.Radicand.{root_of}
use Rattle.square_root.proofs.parts.Value.{root_of_fits}
use Rattle.square_root.specs.Root.{sqrt_at, sqrt_of}
use Rattle.square_root.specs.Nearest.{IsRoot, Normal, FartherNonNegative, Farther, NotNegative}
use Rattle.square_root.proofs.Value.{parts_root, at_kind}
use Rattle.square_root.proofs.Doubles.{farther_non_negative}

-- ---- of a double above 0
abbrev parts_at : Float → Parts
parts_at x = parts_of (to_bits binary64 x)

in_its_place : (x : Float) → T (fits binary64 x) → T (positive x) → InPlace (parts_at x)
in_its_place x f p = in_place x (parts_at x) f (sym (at_positive x p))

root_is : (x : Float) → T (positive x) → root_of (parts_at x) ≡ sqrt_of x
unfolding sqrt_at
root_is x p = at_kind x (Positive (parts_at x)) refl (sym (at_positive x p))

root_fits : (x : Float) → T (fits binary64 x) → T (positive x) → T (fits binary64 (sqrt_of x))
root_fits x f p = subst (λ (r : Float). T (fits binary64 r)) (root_is x p) (root_of_fits (parts_at x) (in_its_place x f p))

-- The result is the root, rounded to 53 digits.
pub sqrt_is_root : (x : Float) → T (fits binary64 x) → T (positive x) → IsRoot x (sqrt_of x)
unfolding significand exponent
sqrt_is_root x f p = subst (λ (r : Float). IsRoot x r) (root_is x p) (parts_root (parts_at x) (in_its_place x f p) x (value x f p))

root_positive : (x r : Float) → IsRoot x r → T (positive r)
root_positive x r i = positive_of_value r (i.s * 2 ^ i.h) (2 ^ 589) i.result (mul-pos (omega (arith, i.digits_low)) (pow_pos i.h))

root_normal : (x r : Float) → IsRoot x r → Normal r
root_normal x r i = record {
  above = own_value r (root_positive x r i);
  not_small = reaching (num r) (den r) (i.s * 2 ^ i.h) (2 ^ 589) (2 ^ 1022) (lit≤ tt) (mul-pos (omega (arith, i.digits_low)) (pow_pos i.h)) (value→cross r (i.s * 2 ^ i.h) (2 ^ 589) i.result);
}
  where
    reaching : (a b s D E : ℕ) → D ≤ E → 0 < s → a * D ≡ s * b → b ≤ a * E
    reaching a b s D E l p e = let q : 1 ≤ s = p in omega (arith, mul-le-mul_left a l, mul-le-mul_right b q)

-- It is finite and above 0.
pub sqrt_positive : (x : Float) → T (fits binary64 x) → T (positive x) → T (positive (sqrt_of x))
sqrt_positive x f p = root_positive x (sqrt_of x) (sqrt_is_root x f p)

-- It is normal, at least 2 ^ -1022, also where x is subnormal.
pub sqrt_normal : (x : Float) → T (fits binary64 x) → T (positive x) → Normal (sqrt_of x)
sqrt_normal x f p = root_normal x (sqrt_of x) (sqrt_is_root x f p)

-- ---- beside the other doubles
zero_fits : T (fits binary64 (fin false 0 (pos 0)))
unfolding fits
zero_fits = tt

root_nearest : (x r y : Float) → IsRoot x r → T (fits binary64 y) → Farther x r y
root_nearest x r nan i f = tt
root_nearest x r (inf s) i f = tt
root_nearest x r (fin false m e) i f = farther_non_negative x r m e i f
root_nearest x r (fin true m e) i f =
    let b = farther_non_negative x r 0 (pos 0) i zero_fits in
    let p : 0 < num r = value_pos r (num r) (den r) (root_positive x r i) (den_pos r) (own_value r (root_positive x r i)) in
    omega (arith, b.from_below (omega arith))

-- It is the nearest double to the root: any other finite double y is farther from it, 0 and those below 0 too.
pub sqrt_nearest : (x y : Float) → T (fits binary64 x) → T (positive x) → T (fits binary64 y) → Farther x (sqrt_of x) y
sqrt_nearest x y f p g = root_nearest x (sqrt_of x) y (sqrt_is_root x f p) g

level : (A B : ℕ) → (A < B → ⊥) → (B < A → ⊥) → A ≡ B
level A B h k = omega (arith, h, k)

farther_positive : (x r y : Float) → IsRoot x r → T (fits binary64 y) → T (positive y) → FartherNonNegative x r y
farther_positive x r nan i f p = absurd p
farther_positive x r (inf s) i f p = absurd p
farther_positive x r (fin true m e) i f p = absurd p
farther_positive x r (fin false m e) i f p = farther_non_negative x r m e i f

not_below : (x r t : Float) → IsRoot x r → IsRoot x t → T (fits binary64 r) → T (fits binary64 t) → num r * den t < num t * den r → ⊥
not_below x r t i j f g h =
    both (num r * den t) (num t * den r) (den r) (den t) (num x) (den x)
    ((farther_positive x t r j f (root_positive x r i)).from_below h) ((farther_positive x r t i g (root_positive x t j)).from_above h)
  where
    both : (A B c d p q : ℕ) → (A + B) * (A + B) * q < 4 * p * (c * d * (c * d)) → 4 * p * (d * c * (d * c)) < (B + A) * (B + A) * q → ⊥
    both A B c d p q h k = omega arith

-- No other double is a rounded root of x.
pub sqrt_only : (x r : Float) → T (fits binary64 x) → T (fits binary64 r) → IsRoot x r → r ≡ sqrt_of x
sqrt_only x r f g i =
    let p : T (positive x) = positive_of_value x (i.n * 4 ^ i.h) (4 ^ 589) i.operand (mul-pos (omega (arith, i.operand_low)) (one-le-pow i.h 4 (lit< tt))) in
    let j = sqrt_is_root x f p in
    let k = root_fits x f p in
    same r (sqrt_of x) g k (root_positive x r i) (sqrt_positive x f p)
    (level (num r * den (sqrt_of x)) (num (sqrt_of x) * den r) (not_below x r (sqrt_of x) i j g k) (not_below x (sqrt_of x) r j i k g))

-- ---- of a square: A + B is no less than 2 * A where A is below B, and no more where A is above B, and so are the squares
twice_under : (A B q K : ℕ) → K ≡ 4 * (A * A) * q → A < B → (A + B) * (A + B) * q < K → ⊥
twice_under A B q K e h l = let x : 2 * A ≤ A + B = omega arith in omega (arith, mul-le-mul_right q (mul-le-mul x x))

twice_over : (A B q K : ℕ) → K ≡ 4 * (A * A) * q → B < A → K < (A + B) * (A + B) * q → ⊥
twice_over A B q K e h l = let x : A + B ≤ 2 * A = omega arith in omega (arith, mul-le-mul_right q (mul-le-mul x x))

square_root : (x r y : Float) → IsRoot x r → T (fits binary64 r) → T (fits binary64 y) → T (positive y) → HasValue x false (num y * num y) (den y * den y) → r ≡ y
square_root x r y i f g q v =
    let b = farther_positive x r y i g q in
    let e = fourfold (num y) (den y) (den r) (num x) (den x) (value→cross x (num y * num y) (den y * den y) v) in
    same r y f g (root_positive x r i) q
    (sym
    (level (num y * den r) (num r * den y) (λ (h : num y * den r < num r * den y). twice_under (num y * den r) (num r * den y) (den x) _ e h (b.from_below h))
    (λ (h : num r * den y < num y * den r). twice_over (num y * den r) (num r * den y) (den x) _ e h (b.from_above h))))
  where
    fourfold : (a c d p q : ℕ) → p * (c * c) ≡ a * a * q → 4 * p * (c * d * (c * d)) ≡ 4 * (a * d * (a * d)) * q
    fourfold a c d p q e = omega (arith, ap (λ (z : ℕ). z * (d * d)) e)

-- the double y being a / c, and x its square
exact_root : (x y : Float) (a c : ℕ) → T (fits binary64 x) → T (fits binary64 y) → 0 < a → 0 < c → HasValue y false a c → HasValue x false (a * a) (c * c) → sqrt_of x ≡ y
exact_root x y a c f g A C v w =
    let p : T (positive x) = positive_of_value x (a * a) (c * c) w (mul-pos A A) in
    square_root x (sqrt_of x) y (sqrt_is_root x f p) (root_fits x f p) g (positive_of_value y a c v A)
    (rescale x false (a * a) (c * c) (num y * num y) (den y * den y) (mul-pos C C) (squared (num y) (den y) a c (value→cross y a c v)) w)
  where
    squared : (m d a c : ℕ) → m * c ≡ a * d → m * m * (c * c) ≡ a * a * (d * d)
    squared m d a c e = omega (arith, ap (λ (z : ℕ). z * z) e)

-- Where the square of y is a double, so that y * y is exact, its root is y.
pub sqrt_of_square : (y : Float) → T (fits binary64 y) → T (positive y) → HasValue (mul binary64 y y) false (num y * num y) (den y * den y) → sqrt_of (mul binary64 y y) ≡ y
sqrt_of_square y f p v =
    let q : 0 < num y = value_pos y (num y) (den y) p (den_pos y) (own_value y p) in
    exact_root (mul binary64 y y) y (num y) (den y) (mul-fits binary64 y y) f q (den_pos y) (own_value y p) v

-- And so for 0.
pub sqrt_of_zero_square : sqrt_of (mul binary64 (fin false 0 (pos 0)) (fin false 0 (pos 0))) ≡ fin false 0 (pos 0)
unfolding sqrt_of mul
sqrt_of_zero_square = refl

whole_value : (n : ℕ) → n ≤ 2 ^ 53 → HasValue (of_int binary64 (pos n)) false n 1
unfolding of_int
whole_value n h = round_whole binary64 false n h

-- The root of the square of a whole number up to 2 ^ 26 is that number.
pub sqrt_of_whole : (n : ℕ) → n ≤ 2 ^ 26 → sqrt_of (of_int binary64 (pos (n * n))) ≡ of_int binary64 (pos n)
unfolding sqrt_of of_int
sqrt_of_whole zero h = refl
sqrt_of_whole (suc n) h =
    exact_root (of_int binary64 (pos (suc n * suc n))) (of_int binary64 (pos (suc n))) (suc n) 1 (of_int-fits binary64 (pos (suc n * suc n))) (of_int-fits binary64 (pos (suc n))) (zero-lt-suc n) (lit< tt)
    (whole_value (suc n) (omega arith)) (whole_value (suc n * suc n) (omega (arith, mul-le-mul h h)))

-- ---- of every double
-- The result is a double.
pub sqrt_fits : (x : Float) → T (fits binary64 x) → T (fits binary64 (sqrt_of x))
unfolding sqrt_of
sqrt_fits nan f = f
sqrt_fits (inf false) f = f
sqrt_fits (inf true) f = nan-fits binary64
sqrt_fits (fin s zero e) f = f
sqrt_fits (fin true (suc m) e) f = nan-fits binary64
sqrt_fits (fin false (suc m) e) f = root_fits (fin false (suc m) e) f (lt→ltb 0 (suc m) (zero-lt-suc m))

not_zero : (r : Float) (s : Bool) (e : ℤ) → T (positive r) → r ≡ fin s 0 e → ⊥
not_zero r true e p i = subst (λ (y : Float). T (positive y)) i p
not_zero r false e p i = subst (λ (y : Float). T (positive y)) i p

-- The result is 0 only where x is, and it keeps the sign of x.
pub sqrt_zero : (x : Float) → T (fits binary64 x) → (s : Bool) (e : ℤ) → sqrt_of x ≡ fin s 0 e → x ≡ fin s 0 e
unfolding sqrt_of
sqrt_zero nan f s e i = i
sqrt_zero (inf false) f s e i = i
sqrt_zero (inf true) f s e i = cc
sqrt_zero (fin t zero d) f s e i = i
sqrt_zero (fin true (suc m) d) f s e i = cc
sqrt_zero (fin false (suc m) d) f s e i = absurd (not_zero (sqrt_of (fin false (suc m) d)) s e (sqrt_positive (fin false (suc m) d) f (lt→ltb 0 (suc m) (zero-lt-suc m))) i)

positive_not_negative : (r : Float) → T (positive r) → NotNegative r
positive_not_negative nan p = absurd p
positive_not_negative (inf s) p = absurd p
positive_not_negative (fin true m e) p = absurd p
positive_not_negative (fin false zero e) p = tt
positive_not_negative (fin false (suc m) e) p = tt

-- The result is never below 0. (That of -0 is -0.)
pub sqrt_never_negative : (x : Float) → T (fits binary64 x) → NotNegative (sqrt_of x)
unfolding sqrt_of
sqrt_never_negative nan f = tt
sqrt_never_negative (inf false) f = tt
sqrt_never_negative (inf true) f = tt
sqrt_never_negative (fin s zero e) f = tt
sqrt_never_negative (fin true (suc m) e) f = tt
sqrt_never_negative (fin false (suc m) e) f = positive_not_negative (sqrt_of (fin false (suc m) e)) (sqrt_positive (fin false (suc m) e) f (lt→ltb 0 (suc m) (zero-lt-suc m)))

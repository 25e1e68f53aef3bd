-- Doubles as fractions: around a root they lie a unit of its last place apart, or below its digits.
use mathlib.Core.Path.{◌≡◌, ap, sym, ◌∙◌, subst₂}
use mathlib.Core.Bool.{Bool, true, false, ◌&&◌}
use Prim.Native.Nat.{ℕ, zero, suc, ◌+◌, ◌*◌, ◌%◌, ◌^◌, ◌<◌}
use native.Mathlib.Nat.{mul_assoc, mul-one, one-mul, mul-pos}
use lib.Dec.{T, eqb, ltb, leb, ltb→lt, lit<}
use lib.Pow.{pow-add, pow_pos}
use lib.IntN.{ℤ, pos, negsuc}
use lib.Ieee.{Float, fin, binary64, up, down, fits}
use lib.Ieee.Positive.{num, den, den_pos, value→cross}
use Rattle.square_root.specs.Nearest.{IsRoot, FartherNonNegative}
use Rattle.square_root.proofs.Value.{four}
use Rattle.square_root.proofs.Middle.{Spaced, spaced, above, below}

-- ---- a double that is not below 0, in units of 2 ^ h / 2 ^ 589
few_digits : (m : ℕ) (e : ℤ) → T (fits binary64 (fin false m e)) → m < 2 ^ 53
unfolding fits
few_digits zero e f = lit< tt
few_digits (suc m) e f = ltb→lt (suc m) (2 ^ 53) (second (eqb (suc m % 2) 1) (ltb (suc m) (2 ^ 53)) (leb (down e) (2 ^ 1074)) (ltb (suc m * up e) (2 ^ 1024 * down e)) f)
  where
    second : (a b c d : Bool) → T (a && b && c && d) → T b
    second true true c d t = tt
    second true false c d t = absurd t
    second false b c d t = absurd t

in_units : (h m : ℕ) (e : ℤ) → T (fits binary64 (fin false m e)) → Spaced (m * up e * 2 ^ 589) (down e * 2 ^ h)
in_units h m (pos k) f =
    subst₂ (λ (x y : ℕ). Spaced x y) (ap (λ (z : ℕ). m * z) (pow-add 2 k 589) ∙ sym (mul_assoc m (2 ^ k) (2 ^ 589))) (sym (one-mul (2 ^ h)))
    (spaced m (k + 589) h (few_digits m (pos k) f))
in_units h m (negsuc k) f =
    subst₂ (λ (x y : ℕ). Spaced x y) (ap (λ (z : ℕ). z * 2 ^ 589) (sym (mul-one m))) (pow-add 2 (suc k) h)
    (spaced m 589 (suc k + h) (few_digits m (negsuc k) f))

-- ---- beside a root
pub farther_non_negative : (x r : Float) (m : ℕ) (e : ℤ) → IsRoot x r → T (fits binary64 (fin false m e)) → FartherNonNegative x r (fin false m e)
farther_non_negative x r m e i f =
    let y = fin false m e in
    let c : 0 < den y * 2 ^ i.h = mul-pos (den_pos y) (pow_pos i.h) in
    let r_is : num r * 2 ^ 589 ≡ i.s * 2 ^ i.h * den r = value→cross r (i.s * 2 ^ i.h) (2 ^ 589) i.result in
    let x_is : num x * (2 ^ 589 * 2 ^ 589) ≡ i.n * (2 ^ i.h * 2 ^ i.h) * den x =
    value→cross x (i.n * 4 ^ i.h) (4 ^ 589) i.operand ∙ ap (λ (z : ℕ). i.n * z * den x) (four i.h) in
    let g = in_units i.h m e f in
    record {
      from_below =
          below (num y) (den y) (num r) (den r) (num x) (den x) (2 ^ i.h) (2 ^ 589) i.n i.s c (pow_pos 589) (den_pos r) (den_pos x) r_is x_is i.digits_low i.operand_low i.nearest g;
      from_above =
          above (num y) (den y) (num r) (den r) (num x) (den x) (2 ^ i.h) (2 ^ 589) i.n i.s c (pow_pos 589) (den_pos r) (den_pos x) r_is x_is i.digits_low i.operand_low i.nearest g;
    }

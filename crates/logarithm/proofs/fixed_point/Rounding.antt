-- A number of units, rounded to a double, is off by at most 2 ^ -53 of the double.
use Rattle.std.proofs.Common.{◌≡◌, ℕ, suc, ◌+◌, ◌-◌, ◌*◌, ◌/◌, ◌%◌, ◌^◌, ◌<◌, ◌≤◌, Bool, not, T, ◌⊎◌, sym, refl, ap, subst, inl, inr, le_trans, lt_of_le_of_lt, mul-le-mul_right, mod-lt, eq-zero-or-pos, mul-le-mul_left, mul-pos, div-add-mod', le-div_iff_mul-le, zero-mul, le_of_mul-le-mul_right, arith, lit<, lit≤, eqb→eq, leb→le, pow_pos, pow-add}
use Prim.Native.Nat.{compare, Ordering}
use lib.Dec.{is_le, compare_is_eq, nleb→lt}
use lib.Ieee.{Float, nan, inf, fin, binary64, up, down, size, nearest, round, emax, low}
use lib.Ieee.Digits.{size_reaches}
use lib.Ieee.Fits.{round_is}
use lib.Ieee.Exact.{HasValue, units_val, round_exact}
use lib.Ieee.Nearest.{closest, nearest-ge}
use lib.Ieee.Scale.{normal_of_fraction, finite}

-- ---- the nearest whole number is at most half of one away
abbrev Half : ℕ → ℕ → ℕ → Type 0
Half n u q = (2 * (q * u) ≤ 2 * n + u) × (2 * n ≤ 2 * (q * u) + u)

half : (o : Ordering) (n u w r : ℕ) → w * u + r ≡ n → r < u → (T (is_le o) → r * 2 ≤ u) → (T (not (is_le o)) → u < r * 2) → (T (compare_is_eq o) → r * 2 ≡ u) → Half n u (nearest w o)
half Ordering.lt n u w r e l h k j = let x : r * 2 ≤ u = h tt in (omega arith, omega arith)
half Ordering.eq n u w r e l h k j =
    let x : r * 2 ≡ u = j tt in
    let y : w % 2 ≤ 1 = omega arith in
    (omega (arith, mul-le-mul_right u y), omega (arith, mul-le-mul_right u y))
half Ordering.gt n u w r e l h k j = let x : u < r * 2 = k tt in (omega arith, omega arith)

closest_half : (n u : ℕ) → 0 < u → Half n u (closest n u)
closest_half n u U =
    half (compare (n % u * 2) u) n u (n / u) (n % u) (div-add-mod' n u) (mod-lt n U) (leb→le (n % u * 2) u) (nleb→lt (n % u * 2) u) (eqb→eq (n % u * 2) u)

-- ---- v is within v / (2 H) of n: where all digits that are kept are in use, q is H or more
abbrev Off : ℕ → ℕ → ℕ → Type 0
Off H n v = (2 * H * v ≤ 2 * H * n + v) × (2 * H * n ≤ 2 * H * v + v)

off : (H n u q : ℕ) → H ≤ q → Half n u q → Off H n (q * u)
off H n u q h k = (omega (arith, mul-le-mul_left H k.0, mul-le-mul_right u h), omega (arith, mul-le-mul_left H k.1, mul-le-mul_right u h))

in_use : (n c z : ℕ) → 0 < c → z ≡ size (n / c) → 53 ≤ z → 2 ^ 52 ≤ n / (c * 2 ^ (z - 53))
in_use n c z C e h =
    let x : 2 ^ (52 + (z - 53)) ≤ n / c = size_reaches (n / c) (52 + (z - 53)) (omega arith) in
    let y : 2 ^ (52 + (z - 53)) * c ≤ n = (le-div_iff_mul-le C).0 x in
    let p : 2 ^ (52 + (z - 53)) ≡ 2 ^ 52 * 2 ^ (z - 53) = pow-add 2 52 (z - 53) in
    let w : 2 ^ 52 * 2 ^ (z - 53) * c ≤ n = rw p at y in
    (le-div_iff_mul-le (mul-pos C (pow_pos (z - 53)))).1 (omega arith)

-- ---- R / Q is a double within 2 ^ -53 of itself of W units, U to one
pub record Rounded (U W R Q : ℕ) : Type 0 where
  pub up : 2 ^ 53 * (W * Q) ≤ 2 ^ 53 * (R * U) + R * U
  pub down : 2 ^ 53 * (R * U) ≤ 2 ^ 53 * (W * Q) + R * U

abbrev pub IsRounded : Float → Bool → ℕ → ℕ → Type 0
IsRounded nan s W U = ⊥
IsRounded (inf t) s W U = ⊥
IsRounded (fin t m e) s W U = (t ≡ s) × Rounded U W (m * up e) (down e)

cross : (H U W P v R Q : ℕ) → 0 < P → R * P ≡ v * Q → Off H (W * P) (v * U)
    → (2 * H * (W * Q) ≤ 2 * H * (R * U) + R * U) × (2 * H * (R * U) ≤ 2 * H * (W * Q) + R * U)
cross H U W P v R Q p e k = (
  le_of_mul-le-mul_right (omega (arith, mul-le-mul_right Q k.1, ap (λ (x : ℕ). H * U * x) e, ap (λ (x : ℕ). U * x) e)) p,
  le_of_mul-le-mul_right (omega (arith, mul-le-mul_right Q k.0, ap (λ (x : ℕ). H * U * x) e, ap (λ (x : ℕ). U * x) e)) p,
)

from_value : (x : Float) (s : Bool) (v W P U : ℕ) → 0 < P → HasValue x s v P → Off (2 ^ 52) (W * P) (v * U) → IsRounded x s W U
from_value nan s v W P U p h k = h
from_value (inf t) s v W P U p h k = h
from_value (fin t m e) s v W P U p h k =
    let c = cross (2 ^ 52) U W P v (m * up e) (down e) p h.1 k in
    (h.0, record { up = c.0; down = c.1 })

small : (H U W P v : ℕ) → 1 ≤ H → 0 < U → W ≤ 2048 * U → 2 * H * (v * U) ≤ 2 * H * (W * P) + v * U → v ≤ 4096 * P
small H U W P v h u l k =
    let x : v * U ≤ 2 * (W * P) = le_of_mul-le-mul_right (omega (arith, mul-le-mul_right (v * U) h)) h in
    le_of_mul-le-mul_right (omega (arith, mul-le-mul_right P l)) u

-- U is at most 2 ^ 1022, so that one unit is a normal double
module _ (U : ℕ) (C : 0 < U) (most : U ≤ 2 ^ 1022) where
  normal : (W : ℕ) → 0 < W → 2 ^ 52 * U ≤ W * 2 ^ 1074
  normal W w = le_trans (mul-le-mul_left (2 ^ 52) most) (le_trans (lit≤ tt) (mul-le-mul_right (2 ^ 1074) w))

  positive : (s : Bool) (W : ℕ) → 0 < W → W ≤ 2048 * U → IsRounded (round binary64 s W U) s W U
  positive s W w l =
      let P = 2 ^ low binary64 in
      let n = W * P in
      let k = size (n / U) - 53 in
      let u = U * 2 ^ k in
      let q = closest n u in
      let N : 53 ≤ size (n / U) = normal_of_fraction binary64 W U C (normal W w) in
      let H : 2 ^ 52 ≤ q = le_trans (in_use n U (size (n / U)) C refl N) (nearest-ge (n / u) (compare (n % u * 2) u)) in
      let o : Off (2 ^ 52) n (q * u) = off (2 ^ 52) n u q H (closest_half n u (mul-pos C (pow_pos k))) in
      let o' : Off (2 ^ 52) n (q * 2 ^ k * U) = subst (λ (x : ℕ). Off (2 ^ 52) n x) (omega arith) o in
      let f : q * 2 ^ k < 2 ^ (low binary64 + suc (emax binary64)) = lt_of_le_of_lt (small (2 ^ 52) U W P (q * 2 ^ k) (lit≤ tt) C l o'.0) (lit< tt) in
      from_value (round binary64 s W U) s (q * 2 ^ k) W P U (lit< tt)
      (subst (λ (x : Float). HasValue x s (q * 2 ^ k) P) (sym (round_is binary64 s W U)) (units_val binary64 s q k f)) o'

  zero_value : (x : Float) (s : Bool) → HasValue x s 0 U → IsRounded x s 0 U
  zero_value nan s h = h
  zero_value (inf t) s h = h
  zero_value (fin t m e) s h = (h.0, record { up = omega (arith, h.1); down = omega (arith, h.1) })

  pub rounded : (s : Bool) (W : ℕ) → W ≤ 2048 * U → IsRounded (round binary64 s W U) s W U
  rounded s W l = go (eq-zero-or-pos W)
    where
      go : (W ≡ 0) ⊎ (0 < W) → IsRounded (round binary64 s W U) s W U
      go (inl e) = subst (λ (w : ℕ). IsRounded (round binary64 s w U) s w U) (sym e) (zero_value (round binary64 s 0 U) s (round_exact binary64 s 0 U 0 0 C (lit< tt) (lit< tt) (sym (zero-mul U))))
      go (inr p) = positive s W p l

pub rounded_finite : (x : Float) (s : Bool) (W U : ℕ) → IsRounded x s W U → T (finite x)
rounded_finite nan s W U h = h
rounded_finite (inf t) s W U h = h
rounded_finite (fin t m e) s W U h = tt

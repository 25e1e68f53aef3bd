-- A fraction beside a rounded root: the middle of the two against the root itself.
use mathlib.Core.Path.{◌≡◌, refl, ap, sym, ◌∙◌, subst, subst₂}
use mathlib.Core.Bool.{Bool, true, false}
use mathlib.Core.Logic.{◌⊎◌, inl, inr, ⊎_elim}
use Prim.Native.Nat.{ℕ, suc, ◌+◌, ◌-◌, ◌*◌, ◌^◌, ◌≤◌, ◌<◌}
use native.Mathlib.Nat.{mul-le-mul, mul-le-mul_left, mul-le-mul_right, mul-lt-mul_of_pos_right, lt_of_mul-lt-mul_right, mul-pos, pow-suc}
use native.Mathlib.Omega.{arith}
use borrow.Author.Tests.{ltb-true, ltb-false}
use lib.Dec.{ltb}
use lib.Pow.{pow-add, pow_pos, pow_mono}
use Rattle.square_root.specs.Nearest.{Nearest}

compared : (a b : ℕ) → (a < b) ⊎ (b ≤ a)
compared a b = go (ltb a b) refl
  where
    go : (t : Bool) → ltb a b ≡ t → (a < b) ⊎ (b ≤ a)
    go true e = inl (ltb-true a b e)
    go false e = inr (ltb-false a b e)

-- ---- Y / X is a double in units of a root's last place: a whole number of them, or fewer than 2 ^ 52. So beside a root of s units, which is
-- 2 ^ 52 or more, it lies a unit off, or below 2 ^ 52 of them.
pub record Spaced (Y X : ℕ) : Type 0 where
  pub next : (s : ℕ) → 2 ^ 52 ≤ s → s * X < Y → (s + 1) * X ≤ Y
  pub last : (s : ℕ) → 2 ^ 52 ≤ s → Y < s * X → (Y + X ≤ s * X) ⊎ (Y < 2 ^ 52 * X)

suc_le : (a b : ℕ) → a < b → a + 1 ≤ b
suc_le a b h = omega arith

whole_units : (w X : ℕ) → Spaced (w * X) X
whole_units w X = record {
  next = λ (s : ℕ) (l : 2 ^ 52 ≤ s) (h : s * X < w * X). mul-le-mul_right X (suc_le s w (lt_of_mul-lt-mul_right X h));
  last = λ (s : ℕ) (l : 2 ^ 52 ≤ s) (h : w * X < s * X). inl (omega (arith, mul-le-mul_right X (suc_le w s (lt_of_mul-lt-mul_right X h))));
}

few_units : (Y X : ℕ) → Y < 2 ^ 52 * X → Spaced Y X
few_units Y X f = record {
  next = λ (s : ℕ) (l : 2 ^ 52 ≤ s) (h : s * X < Y). omega (arith, mul-le-mul_right X l);
  last = λ (s : ℕ) (l : 2 ^ 52 ≤ s) (h : Y < s * X). inr f;
}

pub spaced : (m i j : ℕ) → m < 2 ^ 53 → Spaced (m * 2 ^ i) (2 ^ j)
spaced m i j M = go (compared i j)
  where
    go : (i < j) ⊎ (j ≤ i) → Spaced (m * 2 ^ i) (2 ^ j)
    go (inl h) =
        let x : 2 ^ suc i ≤ 2 ^ j = pow_mono h in
        let z : m * 2 ^ j < 2 ^ 53 * 2 ^ j = mul-lt-mul_of_pos_right M (pow_pos j) in
        few_units (m * 2 ^ i) (2 ^ j) (omega (arith, mul-le-mul_left m x, ap (λ (y : ℕ). m * y) (pow-suc 2 i)))
    go (inr h) =
        let e : i - j + j ≡ i = omega arith in
        let x : m * 2 ^ (i - j) * 2 ^ j ≡ m * 2 ^ i = omega (arith, ap (λ (y : ℕ). m * y) (sym (pow-add 2 (i - j) j) ∙ ap (λ (y : ℕ). 2 ^ y) e)) in
        subst (λ (y : ℕ). Spaced y (2 ^ j)) x (whole_units (m * 2 ^ (i - j)) (2 ^ j))

-- ---- in units: W / X is twice the middle, and the root of n is above half of Z or below it
over : (Z W X n : ℕ) → 0 < X → 4 * n < Z * Z → Z * X ≤ W → 4 * n * (X * X) < W * W
over Z W X n p h l = omega (arith, mul-lt-mul_of_pos_right h (mul-pos p p), mul-le-mul l l)

under : (Z W X n : ℕ) → 0 < X → Z * Z < 4 * n → W ≤ Z * X → W * W < 4 * n * (X * X)
under Z W X n p h l = omega (arith, mul-lt-mul_of_pos_right h (mul-pos p p), mul-le-mul l l)

under_even : (Z W X n : ℕ) → Z * Z ≤ 4 * n → W < Z * X → W * W < 4 * n * (X * X)
under_even Z W X n h l =
    let x : W + 1 ≤ Z * X = suc_le W (Z * X) l in
    omega (arith, mul-le-mul x x, mul-le-mul_right (X * X) h)

module _ (s n Y X : ℕ) (S : 2 ^ 52 ≤ s) (N : 2 ^ 104 ≤ n) (k : Nearest s n) (P : 0 < X) (g : Spaced Y X) where
  pub above_in_units : s * X < Y → 4 * n * (X * X) < (Y + s * X) * (Y + s * X)
  above_in_units h = over (2 * s + 1) (Y + s * X) X n P k.below (omega (arith, g.next s S h))

  by_one : Y + X ≤ s * X → (Y + s * X) * (Y + s * X) < 4 * n * (X * X)
  by_one h = under (2 * s - 1) (Y + s * X) X n P k.above (less (2 * s - 1) (omega arith))
    where
      less : (Z : ℕ) → Z + 1 ≡ 2 * s → Y + s * X ≤ Z * X
      less Z e = omega (arith, ap (λ (z : ℕ). z * X) e)

  -- below 2 ^ 52 units, which may be nearer than one to the root's lowest value
  by_part : Y < 2 ^ 52 * X → (2 ^ 52 < s) ⊎ (s ≤ 2 ^ 52) → (Y + s * X) * (Y + s * X) < 4 * n * (X * X)
  by_part h (inl l) = by_one (omega (arith, mul-le-mul_right X (suc_le (2 ^ 52) s l)))
  by_part h (inr l) = under_even (2 * s) (Y + s * X) X n (omega (arith, mul-le-mul l l)) (omega (arith, mul-le-mul_right X S))

  pub below_in_units : Y < s * X → (Y + s * X) * (Y + s * X) < 4 * n * (X * X)
  below_in_units h = ⊎_elim (λ (i : Y + X ≤ s * X). by_one i) (λ (i : Y < 2 ^ 52 * X). by_part i (compared (2 ^ 52) s)) (g.last s S h)

-- ---- and as fractions: a / c beside the root b / d = s * U / D of p / q = n * U * U / (D * D)
module _ (a c b d p q U D n s : ℕ) (C : 0 < c * U) (D⁺ : 0 < D) (d⁺ : 0 < d) (q⁺ : 0 < q) (r_is : b * D ≡ s * U * d) (x_is : p * (D * D) ≡ n * (U * U) * q) where
  root_is : 4 * n * (c * U * (c * U)) * (d * d * q) ≡ 4 * p * (c * d * (c * d)) * (D * D)
  root_is = omega (arith, ap (λ (y : ℕ). y * (c * d * (c * d))) x_is)

  middle_is : (a * D + s * (c * U)) * (a * D + s * (c * U)) * (d * d * q) ≡ (a * d + b * c) * (a * d + b * c) * q * (D * D)
  middle_is = squared (a * D + s * (c * U)) (a * d + b * c) (omega (arith, ap (λ (y : ℕ). y * c) r_is))
    where
      squared : (W M : ℕ) → W * d ≡ M * D → W * W * (d * d * q) ≡ M * M * q * (D * D)
      squared W M e = omega (arith, ap (λ (y : ℕ). y * y * q) e)

  scaled : (A B A' B' : ℕ) → A * (d * d * q) ≡ A' * (D * D) → B * (d * d * q) ≡ B' * (D * D) → A < B → A' < B'
  scaled A B A' B' e f h = lt_of_mul-lt-mul_right (D * D) (subst₂ (λ (x y : ℕ). x < y) e f (mul-lt-mul_of_pos_right h (mul-pos (mul-pos d⁺ d⁺) q⁺)))

  module _ (S : 2 ^ 52 ≤ s) (N : 2 ^ 104 ≤ n) (k : Nearest s n) (g : Spaced (a * D) (c * U)) where
    pub above : b * c < a * d → 4 * p * (c * d * (c * d)) < (a * d + b * c) * (a * d + b * c) * q
    above h =
        let y : s * (c * U) * d < a * D * d = omega (arith, mul-lt-mul_of_pos_right h D⁺, ap (λ (z : ℕ). z * c) r_is) in
        scaled _ _ _ _ root_is middle_is (above_in_units s n (a * D) (c * U) S N k C g (lt_of_mul-lt-mul_right d y))

    pub below : a * d < b * c → (a * d + b * c) * (a * d + b * c) * q < 4 * p * (c * d * (c * d))
    below h =
        let y : a * D * d < s * (c * U) * d = omega (arith, mul-lt-mul_of_pos_right h D⁺, ap (λ (z : ℕ). z * c) r_is) in
        scaled _ _ _ _ middle_is root_is (below_in_units s n (a * D) (c * U) S N k C g (lt_of_mul-lt-mul_right d y))

-- The exact series: the first k terms grow with k, the upper ends fall with k, and each lower end is below each upper end.
use Rattle.std.proofs.Common.{◌≡◌, ℕ, zero, suc, ◌+◌, ◌-◌, ◌*◌, ◌^◌, ◌<◌, ◌≤◌, ◌⊎◌, sym, ap, ◌∙◌, subst, inl, inr, le_refl, add-zero, le_of_lt, add-suc, mul-le-mul_right, zero-lt-suc, mul_assoc, mul-le-mul, mul-le-mul_left, mul-pos, one-mul, pow-suc, lt_of_not-le, le_of_mul-le-mul_right, arith}
use native.Mathlib.Nat.{le_dest, pow-zero}
use native.Mathlib.Decide.{dec_le}
use lib.Ieee.Positive.{through}
use Rattle.logarithm.specs.exact_log.Artanh.{power, under, den, num}

-- the upper end with k terms, as one fraction
abbrev pub top_num : ℕ → ℕ → ℕ → ℕ
top_num a b k = num a b k * (under b k * (b * b - a * a)) + power a k * (b * b) * den b k

abbrev pub top_den : ℕ → ℕ → ℕ → ℕ
top_den a b k = den b k * (under b k * (b * b - a * a))

-- ---- powers of an odd exponent
pub power_zero : (a : ℕ) → power a 0 ≡ a
unfolding power
power_zero a = pow-suc a 0 ∙ ap (λ (x : ℕ). x * a) (pow-zero a) ∙ one-mul a

pub power_suc : (a k : ℕ) → power a (suc k) ≡ power a k * (a * a)
unfolding power
power_suc a k =
    let e : 2 * suc k + 1 ≡ suc (suc (2 * k + 1)) = omega arith in
    ap (λ (n : ℕ). a ^ n) e ∙ pow-suc a (suc (2 * k + 1)) ∙ ap (λ (x : ℕ). x * a) (pow-suc a (2 * k + 1)) ∙ mul_assoc (a ^ (2 * k + 1)) a a

pub power_pos : (b k : ℕ) → 0 < b → 0 < power b k
power_pos b zero h = subst (λ (x : ℕ). 0 < x) (sym (power_zero b)) h
power_pos b (suc k) h = subst (λ (x : ℕ). 0 < x) (sym (power_suc b k)) (mul-pos (power_pos b k h) (mul-pos h h))

pub under_pos : (b k : ℕ) → 0 < b → 0 < under b k
unfolding under
under_pos b k h = mul-pos (omega arith) (power_pos b k h)

pub den_pos : (b k : ℕ) → 0 < b → 0 < den b k
unfolding den
den_pos b zero h = zero-lt-suc 0
den_pos b (suc k) h = mul-pos (den_pos b k h) (under_pos b k h)

-- a < b, as the gap of their squares
pub gap : (a b : ℕ) → a < b → a * a + (b * b - a * a) ≡ b * b
gap a b h = let g : a * a ≤ b * b = mul-le-mul (le_of_lt h) (le_of_lt h) in omega arith

pub gap_pos : (a b : ℕ) → a < b → 0 < b * b - a * a
gap_pos a b h = omega (arith, mul-le-mul_right a h, mul-le-mul_left b h)

pub top_pos : (a b k : ℕ) → a < b → 0 < top_den a b k
top_pos a b k h = let B : 0 < b = omega arith in mul-pos (den_pos b k B) (mul-pos (under_pos b k B) (gap_pos a b h))

-- ---- the lower ends grow
num_step : (a b k : ℕ) → num a b k * den b (suc k) ≤ num a b (suc k) * den b k
unfolding num den
num_step a b k = omega arith

num_mono : (a b k j : ℕ) → 0 < b → num a b k * den b (k + j) ≤ num a b (k + j) * den b k
num_mono a b k zero B = subst (λ (n : ℕ). num a b k * den b n ≤ num a b n * den b k) (sym (add-zero k)) (le_refl (num a b k * den b k))
num_mono a b k (suc j) B =
    subst (λ (n : ℕ). num a b k * den b n ≤ num a b n * den b k) (sym (add-suc k j))
    (through (num a b k) (num a b (k + j)) (num a b (suc (k + j))) (den b k) (den b (k + j)) (den b (suc (k + j))) (den_pos b (k + j) B)
    (num_mono a b k j B) (num_step a b (k + j)))

-- ---- the upper ends fall
fall : (N D A d d' a b g : ℕ) → a * a + g ≡ b * b → b * b * d ≤ d'
    → ((N * d + A * D) * (d' * g) + A * (a * a) * (b * b) * (D * d)) * (D * (d * g)) ≤ (N * (d * g) + A * (b * b) * D) * (D * d * (d' * g))
fall N D A d d' a b g e h =
    let x : (N * d + A * D) * (d' * g) + A * (a * a) * (b * b) * (D * d) ≤ N * (d * g) * d' + A * (b * b) * D * d'
    = omega (arith, ap (λ (n : ℕ). A * D * d' * n) e, mul-le-mul_left (A * (a * a) * D) h) in
    omega (arith, mul-le-mul_right (D * d * g) x)

under_step : (b k : ℕ) → b * b * under b k ≤ under b (suc k)
unfolding under
under_step b k = omega (arith, ap (λ (x : ℕ). (2 * suc k + 1) * x) (power_suc b k))

top_step : (a b k : ℕ) → a < b → top_num a b (suc k) * top_den a b k ≤ top_num a b k * top_den a b (suc k)
unfolding num den
top_step a b k h =
    subst (λ (x : ℕ). (num a b (suc k) * (under b (suc k) * (b * b - a * a)) + x * (b * b) * den b (suc k)) * top_den a b k ≤ top_num a b k * top_den a b (suc k)) (sym (power_suc a k))
    (fall (num a b k) (den b k) (power a k) (under b k) (under b (suc k)) a b (b * b - a * a) (gap a b h) (under_step b k))

top_mono : (a b k j : ℕ) → a < b → top_num a b (k + j) * top_den a b k ≤ top_num a b k * top_den a b (k + j)
top_mono a b k zero h = subst (λ (n : ℕ). top_num a b n * top_den a b k ≤ top_num a b k * top_den a b n) (sym (add-zero k)) (le_refl (top_num a b k * top_den a b k))
top_mono a b k (suc j) h =
    subst (λ (n : ℕ). top_num a b n * top_den a b k ≤ top_num a b k * top_den a b n) (sym (add-suc k j))
    (through (top_num a b (suc (k + j))) (top_num a b (k + j)) (top_num a b k) (top_den a b (suc (k + j))) (top_den a b (k + j)) (top_den a b k) (top_pos a b (k + j) h)
    (top_step a b (k + j) h) (top_mono a b k j h))

-- ---- a lower end is below the upper end with it
low_top : (a b k : ℕ) → num a b k * top_den a b k ≤ top_num a b k * den b k
low_top a b k = omega arith

-- ---- each lower end is below each upper end
split : (m n : ℕ) → ((j : ℕ) × (m + j ≡ n)) ⊎ ((j : ℕ) × (n + j ≡ m))
split m n = elim (dec_le m n) [ yes h ↦ inl (le_dest h) | no h ↦ inr (le_dest (le_of_lt (lt_of_not-le h))) ]

pub ends : (a b M N : ℕ) → a < b → num a b M * top_den a b N ≤ top_num a b N * den b M
ends a b M N h = elim (split M N) [ inl w ↦ up w.0 w.1 | inr w ↦ down w.0 w.1 ]
  where
    B : 0 < b
    B = omega arith

    up : (j : ℕ) → M + j ≡ N → num a b M * top_den a b N ≤ top_num a b N * den b M
    up j e =
        subst (λ (n : ℕ). num a b M * top_den a b n ≤ top_num a b n * den b M) e
        (through (num a b M) (num a b (M + j)) (top_num a b (M + j)) (den b M) (den b (M + j)) (top_den a b (M + j)) (den_pos b (M + j) B) (num_mono a b M j B) (low_top a b (M + j)))

    down : (j : ℕ) → N + j ≡ M → num a b M * top_den a b N ≤ top_num a b N * den b M
    down j e =
        subst (λ (m : ℕ). num a b m * top_den a b N ≤ top_num a b N * den b m) e
        (through (num a b (N + j)) (top_num a b (N + j)) (top_num a b N) (den b (N + j)) (top_den a b (N + j)) (top_den a b N) (top_pos a b (N + j) h) (low_top a b (N + j)) (top_mono a b N j h))

-- so what is below one lower end is below every upper end, and what is above one upper end is above every lower end
pub below_all : (S a b w M N : ℕ) → a < b → w * den b M ≤ S * num a b M → w * top_den a b N ≤ S * top_num a b N
below_all S a b w M N h l =
    le_of_mul-le-mul_right (omega (arith, mul-le-mul_right (top_den a b N) l, mul-le-mul_left S (ends a b M N h))) (den_pos b M (omega arith))

pub above_all : (S a b w M N : ℕ) → a < b → S * top_num a b M ≤ w * top_den a b M → S * num a b N ≤ w * den b N
above_all S a b w M N h l =
    le_of_mul-le-mul_right (omega (arith, mul-le-mul_right (den b N) l, mul-le-mul_left S (ends a b N M h))) (top_pos a b M h)

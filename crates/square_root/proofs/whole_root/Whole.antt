-- Whole-number roots: what `whole_root` and `rounded` are, and that nothing else is.
use mathlib.Core.Path.{◌≡◌, ap, subst}
use mathlib.Core.Bool.{Bool, true, false, not, cond}
use mathlib.Core.Logic.{◌⊎◌, inl, inr}
use Prim.Native.Nat.{ℕ, zero, suc, ◌+◌, ◌-◌, ◌*◌, ◌/◌, ◌^◌, ◌≤◌, ◌<◌}
use native.Mathlib.Nat.{mul-le-mul, eq-zero-or-pos, pow-suc}
use native.Mathlib.Omega.{arith}
use lib.Dec.{T, leb, ltb, leb→le, nleb→lt, ltb→lt, nltb→le}
use Rattle.square_root.specs.whole_root.Whole.{whole_root, rounded}

-- ---- the whole part of a root
abbrev pub Floor : ℕ → ℕ → Type 0
Floor r n = (r * r ≤ n) × (n < (r + 1) * (r + 1))

grow : (b : Bool) (r n m : ℕ) → Floor r m → m * 4 ≤ n → n < m * 4 + 4 → (T b → (2 * r + 1) * (2 * r + 1) ≤ n) → (T (not b) → n < (2 * r + 1) * (2 * r + 1))
    → Floor (cond b (2 * r + 1) (2 * r)) n
grow true r n m f l u h k = let x = h tt in (x, omega (arith, f.0, f.1))
grow false r n m f l u h k = let x = k tt in (omega (arith, f.0), x)

pub floor_is : (k n : ℕ) → n < 4 ^ k → Floor (whole_root k n) n
unfolding whole_root
floor_is zero n h = (omega arith, omega arith)
floor_is (suc k) n h =
    let r = whole_root k (n / 4) in
    let x : n / 4 < 4 ^ k = omega (arith, pow-suc 4 k) in
    grow (leb ((2 * r + 1) * (2 * r + 1)) n) r n (n / 4) (floor_is k (n / 4) x) (omega arith) (omega arith) (leb→le ((2 * r + 1) * (2 * r + 1)) n) (nleb→lt ((2 * r + 1) * (2 * r + 1)) n)

-- ---- the nearest whole number to it: √n lies from s - 1/2 to s + 1/2. Squared and less the quarter, which no whole number reaches.
abbrev pub Near : ℕ → ℕ → Type 0
Near s n = (s * s < n + s) × (n ≤ s * s + s)

pub near_here : (s n : ℕ) → 0 < n → s * s ≤ n → n ≤ s * s + s → Near s n
near_here s n p l h = go (eq-zero-or-pos s)
  where
    go : (s ≡ 0) ⊎ (0 < s) → Near s n
    go (inl e) = omega (arith, ap (λ (x : ℕ). x * s) e)
    go (inr q) = (omega arith, h)

pub near_up : (s n : ℕ) → s * s + s < n → n ≤ s * s + 3 * s + 2 → Near (s + 1) n
near_up s n l h = (omega arith, omega arith)

near_by : (b : Bool) (r n : ℕ) → 0 < n → Floor r n → (T b → r * r + r < n) → (T (not b) → n ≤ r * r + r) → Near (cond b (r + 1) r) n
near_by true r n p f h k = near_up r n (h tt) (omega (arith, f.1))
near_by false r n p f h k = near_here r n p f.0 (k tt)

pub rounded_near : (n : ℕ) → 0 < n → n < 2 ^ 106 → Near (rounded n) n
unfolding rounded
rounded_near n p h =
    let r = whole_root 53 n in
    near_by (ltb (r * r + r) n) r n p (floor_is 53 n h) (ltb→lt (r * r + r) n) (nltb→le (r * r + r) n)

beyond : (s t n : ℕ) → Near s n → Near t n → ¬ (s < t)
beyond s t n a b h =
    let d = t - s - 1 in
    let e : t ≡ s + 1 + d = omega arith in
    omega (arith, subst (λ (x : ℕ). x * x < n + x) e b.0, a.1)

-- nothing else is nearest
pub near_only : (s t n : ℕ) → Near s n → Near t n → s ≡ t
near_only s t n a b = omega (arith, beyond s t n a b, beyond t s n b a)

pub is_rounded : (s n : ℕ) → 0 < n → n < 2 ^ 106 → Near s n → s ≡ rounded n
is_rounded s n p h a = near_only s (rounded n) n a (rounded_near n p h)

-- ---- its digits
pub digits_low : (s n : ℕ) → 2 ^ 104 ≤ n → Near s n → 2 ^ 52 ≤ s
digits_low s n h a = omega (arith, less)
  where
    less : ¬ (s ≤ 2 ^ 52 - 1)
    less l = omega (arith, mul-le-mul l l)

pub digits_high : (s n : ℕ) → n ≤ 2 ^ 106 - 2 ^ 53 → Near s n → s < 2 ^ 53
digits_high s n h a = omega (arith, less)
  where
    less : ¬ (2 ^ 53 ≤ s)
    less l =
        let d = s - 2 ^ 53 in
        let e : s ≡ 2 ^ 53 + d = omega arith in
        omega (arith, subst (λ (x : ℕ). x * x < n + x) e a.0)

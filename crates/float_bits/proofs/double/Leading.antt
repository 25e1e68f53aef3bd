-- The leading digit brought to its place: `places` is the one number of places that does it, and the leading zeros tell it.
use mathlib.Core.Path.{◌≡◌, refl, ap, ap₂, sym, ◌∙◌, subst}
use mathlib.Core.Bool.{Bool, cond}
use Prim.Native.Nat.{ℕ, zero, suc, ◌+◌, ◌-◌, ◌*◌, ◌%◌, ◌^◌, ◌≤◌, ◌<◌}
use native.Mathlib.Nat.{mul-le-mul_right, mul-lt-mul_of_pos_right, lt_of_lt_of_le, mod-lt}
use native.Mathlib.Omega.{arith}
use borrow.Author.Tests.{eq-eqb, ne_eqb}
use lib.Count.{count_leading_zeros, leading_top}
use lib.Dec.{lit<}
use lib.Pow.{pow-add, pow_pos, pow_mono}
use lib.Ieee.{size}
use lib.Ieee.Digits.{size_reaches, size-lt, size-le}
use Rattle.float_bits.specs.declared.double.Parts.{Parts}
use Rattle.float_bits.specs.double.Parts.{field, digits, places, leading, parts_of}

pub size_pos : (q : ℕ) → 0 < q → 0 < size q
size_pos q h = omega (arith, none)
  where
    none : ¬ (size q ≤ 0)
    none l = let x : q < 2 ^ 0 = lt_of_lt_of_le (size-lt q) (pow_mono l) in omega arith

pub places_le : (q : ℕ) → 0 < q → places q ≤ 52
unfolding places
places_le q h = omega (arith, size_pos q h)

-- ---- a number of places that brings the leading digit to the 53rd is `places`
module _ (q p : ℕ) (lo : 2 ^ 52 ≤ q * 2 ^ p) (hi : q * 2 ^ p < 2 ^ 53) where
  reach : ¬ (size q + p ≤ 52)
  reach h =
      let x : q * 2 ^ p < 2 ^ size q * 2 ^ p = mul-lt-mul_of_pos_right (size-lt q) (pow_pos p) in
      let y : 2 ^ (size q + p) ≤ 2 ^ 52 = pow_mono h in
      omega (arith, pow-add 2 (size q) p)

  no_more : 0 < size q → ¬ (53 ≤ size q - 1 + p)
  no_more z h =
      let s : size q - 1 < size q = omega arith in
      let x : 2 ^ (size q - 1) * 2 ^ p ≤ q * 2 ^ p = mul-le-mul_right (2 ^ p) (size_reaches q (size q - 1) s) in
      let y : 2 ^ 53 ≤ 2 ^ (size q - 1 + p) = pow_mono h in
      omega (arith, pow-add 2 (size q - 1) p)

  some : 0 < q
  some = omega (arith, none)
    where
      none : ¬ (q ≤ 0)
      none l = let e : q ≡ 0 = omega arith in omega (arith, ap (λ (n : ℕ). n * 2 ^ p) e)

  pub places_are : p ≡ places q
  unfolding places
  places_are = omega (arith, reach, no_more (size_pos q some), size_pos q some)

exps : (i j n : ℕ) → i + j ≡ n → 2 ^ i * 2 ^ j ≡ 2 ^ n
exps i j n e = sym (pow-add 2 i j) ∙ ap (λ (k : ℕ). 2 ^ k) e

-- ---- the digits in their place are 53
module _ (q : ℕ) (P : 0 < q) (l : q < 2 ^ 53) where
  few : size q ≤ 53
  few = size-le q 53 l

  pub lead_low : 2 ^ 52 ≤ q * 2 ^ places q
  unfolding places
  lead_low =
      let z : 0 < size q = size_pos q P in
      let x : 2 ^ (size q - 1) ≤ q = size_reaches q (size q - 1) (omega arith) in
      subst (λ (n : ℕ). n ≤ q * 2 ^ (53 - size q)) (exps (size q - 1) (53 - size q) 52 (omega (arith, few))) (mul-le-mul_right (2 ^ (53 - size q)) x)

  pub lead_high : q * 2 ^ places q < 2 ^ 53
  unfolding places
  lead_high = subst (λ (n : ℕ). q * 2 ^ (53 - size q) < n) (exps (size q) (53 - size q) 53 (omega (arith, few))) (mul-lt-mul_of_pos_right (size-lt q) (pow_pos (53 - size q)))

abbrev both : ℕ → ℕ → Parts
both m t = record { significand = m; exponent = t }

-- ---- the places are the leading zeros of 64, less 11
-- with j the place of the highest digit of q
counted : (q z j : ℕ) → q < 2 ^ 52 → z + suc j ≡ 64 → 2 ^ j ≤ q → q < 2 ^ suc j → (11 ≤ z) × (z ≤ 63) × (2 ^ 52 ≤ q * 2 ^ (z - 11)) × (q * 2 ^ (z - 11) < 2 ^ 53)
counted q z j l e low high =
    let r : j < 52 = omega (arith, small) in
    let x : 2 ^ j * 2 ^ (z - 11) ≡ 2 ^ 52 = exps j (z - 11) 52 (omega arith) in
    let y : 2 ^ suc j * 2 ^ (z - 11) ≡ 2 ^ 53 = exps (suc j) (z - 11) 53 (omega arith) in (
      omega arith,
      omega arith,
      omega (arith, x, mul-le-mul_right (2 ^ (z - 11)) low),
      omega (arith, y, mul-lt-mul_of_pos_right high (pow_pos (z - 11))),
    )
  where
    small : ¬ (52 ≤ j)
    small h = let m : 2 ^ 52 ≤ 2 ^ j = pow_mono h in omega arith

module _ (q : ℕ) (some : 0 < q) (l : q < 2 ^ 52) where
  found : (11 ≤ count_leading_zeros 64 q) × (count_leading_zeros 64 q ≤ 63) × (2 ^ 52 ≤ q * 2 ^ (count_leading_zeros 64 q - 11)) × (q * 2 ^ (count_leading_zeros 64 q - 11) < 2 ^ 53)
  found = let t = leading_top 64 q some (omega arith) in counted q (count_leading_zeros 64 q) t.0 l t.1 t.2 t.3

  pub zeros_some : 11 ≤ count_leading_zeros 64 q
  zeros_some = found.0

  pub zeros_few : count_leading_zeros 64 q ≤ 63
  zeros_few = found.1

  pub lifted_is : (t : ℕ) → t ≡ count_leading_zeros 64 q - 11 → both (q * 2 ^ (count_leading_zeros 64 q - 11) % 2 ^ 64) (52 - t) ≡ leading q 0
  unfolding leading
  lifted_is t e =
      let p : count_leading_zeros 64 q - 11 ≡ places q = places_are q _ found.2 found.3 in
      let m : q * 2 ^ (count_leading_zeros 64 q - 11) % 2 ^ 64 ≡ q * 2 ^ (count_leading_zeros 64 q - 11) = omega (arith, found.3) in
      ap₂ both (m ∙ ap (λ (n : ℕ). q * 2 ^ n) p) (omega arith)

-- a significand that has its 53 digits stays where it is
pub full : (q k : ℕ) → 2 ^ 52 ≤ q → q < 2 ^ 53 → both q (k + 52) ≡ leading q k
unfolding leading
full q k l h =
    let e : 0 ≡ places q = places_are q 0 (omega arith) (omega arith) in
    let a : q ≡ q * 2 ^ places q = omega (arith, ap (λ (n : ℕ). q * 2 ^ n) e) in
    let b : k + 52 ≡ k + 52 - places q = omega arith in
    ap₂ both a b

-- ---- the parts of a pattern, by its exponent's field
digits_subnormal : (n : ℕ) → field n ≡ 0 → digits n ≡ n % 2 ^ 52
digits_subnormal n e = ap (λ (b : Bool). cond b (n % 2 ^ 52) (2 ^ 52 + n % 2 ^ 52)) (eq-eqb (field n) 0 e)

digits_normal : (n : ℕ) → (field n ≡ 0 → ⊥) → digits n ≡ 2 ^ 52 + n % 2 ^ 52
digits_normal n f = ap (λ (b : Bool). cond b (n % 2 ^ 52) (2 ^ 52 + n % 2 ^ 52)) (ne_eqb (field n) 0 f)

pub some_digits : (n : ℕ) → field n ≡ 0 → 0 < digits n → 0 < n % 2 ^ 52
some_digits n e h = omega (arith, digits_subnormal n e)

pub subnormal : (n : ℕ) (r : Parts) → field n ≡ 0 → r ≡ leading (n % 2 ^ 52) 0 → r ≡ parts_of n
unfolding parts_of
subnormal n r e i =
    let z : 0 ≡ field n - 1 = omega (arith, e) in
    i ∙ ap₂ leading (sym (digits_subnormal n e)) z

pub normal : (n : ℕ) → (field n ≡ 0 → ⊥) → both (2 ^ 52 + n % 2 ^ 52) (field n + 51) ≡ parts_of n
unfolding parts_of
normal n f =
    let z : field n + 51 ≡ field n - 1 + 52 = above (field n) f in
    ap (both (2 ^ 52 + n % 2 ^ 52)) z ∙ full (2 ^ 52 + n % 2 ^ 52) (field n - 1) (omega arith) (omega (arith, mod-lt n {m = 2 ^ 52} (lit< tt)))
    ∙ ap (λ (q : ℕ). leading q (field n - 1)) (sym (digits_normal n f))
  where
    above : (k : ℕ) → (k ≡ 0 → ⊥) → k + 51 ≡ k - 1 + 52
    above zero g = absurd (g refl)
    above (suc k) g = omega arith

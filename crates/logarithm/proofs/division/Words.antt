-- Laws for the program's whole numbers: long division, and the quotient from a guess.
use Rattle.std.proofs.Common.{◌≡◌, ℕ, ◌+◌, ◌*◌, ◌/◌, ◌%◌, ◌^◌, ◌<◌, ◌≤◌, sym, ap, ◌∙◌, subst, lt_of_lt_of_le, mod-lt, div-lt_iff_lt-mul, pow-suc, div-add-mod', add-one, arith, lit<, ◌-◌, mul-le-mul, lit≤, ltb-false, ltb-true, le_trans, ap₂, ltb, Bool, true, false, refl}
use native.Mathlib.Nat.{mul-add-div_right, pow-le-pow_right, mod-eq_of_lt, add-mod_right}
use lib.Arith.{digits_div}

-- ---- long division, to the base 4
pub record Divided (a b q r i : ℕ) : Type 0 where
  pub turns : i ≤ 31
  pub less : r < b
  pub whole : q * b + r ≡ a * 4 ^ i
  pub small : q < 4 ^ i

pub digit : (b r : ℕ) → r < b → r * 4 / b < 4
digit b r h =
    let B : 0 < b = omega arith in
    let x : r * 4 < 4 * b = omega arith in
    (div-lt_iff_lt-mul B).1 x

pub first_digit : (a b : ℕ) → a < b → Divided a b 0 a 0
first_digit a b h = record { turns = omega arith; less = h; whole = omega arith; small = lit< tt }

power_next : (i : ℕ) → 4 ^ (i + 1) ≡ 4 ^ i * 4
power_next i = ap (λ (n : ℕ). 4 ^ n) (add-one i) ∙ pow-suc 4 i

pub next_digit : (a b q r i : ℕ) → Divided a b q r i → i < 31 → Divided a b (q * 4 + r * 4 / b) (r * 4 % b) (i + 1)
next_digit a b q r i s h =
    let l = digit b r s.less in
    record {
      turns = omega arith;
      less = mod-lt (r * 4) (omega arith);
      whole = omega (arith, ap (λ (n : ℕ). a * n) (power_next i), div-add-mod' (r * 4) b, s.whole);
      small = omega (arith, power_next i, s.small);
    }

pub quotient_fits : (a b q r i : ℕ) → Divided a b q r i → i < 31 → q < 4 ^ 30
quotient_fits a b q r i s h =
    let l : i ≤ 30 = omega arith in
    lt_of_lt_of_le s.small (pow-le-pow_right (lit< tt) l)

pub last_digit : (a b q r i : ℕ) → Divided a b q r i → 31 ≤ i → q ≡ a * 2 ^ 62 / b
last_digit a b q r i s h =
    let e : i ≡ 31 = omega arith in
    let w : q * b + r ≡ a * 4 ^ 31 = subst (λ (n : ℕ). q * b + r ≡ a * 4 ^ n) e s.whole in
    sym (digits_div q s.less) ∙ ap (λ (n : ℕ). n / b) w

-- ---- the quotient from a guess: r is what g * b leaves of a * 2^54
-- a difference modulo M that is small is one
left : (M x p : ℕ) → x < M → p + 2 ^ 56 ≤ M → (x % M + (M - p)) % M < 2 ^ 56 → p + (x % M + (M - p)) % M ≡ x
left M x p h k small = go (ltb x p) refl
  where
    whole : x % M + (M - p) ≡ x + (M - p)
    whole = ap (λ (n : ℕ). n + (M - p)) (mod-eq_of_lt h)

    go : (t : Bool) → ltb x p ≡ t → p + (x % M + (M - p)) % M ≡ x
    go true t =
        let l : x < p = ltb-true x p t in
        let e : (x % M + (M - p)) % M ≡ x + (M - p) = ap (λ (n : ℕ). n % M) whole ∙ mod-eq_of_lt (omega arith) in
        omega (arith, e)
    go false t =
        let l : p ≤ x = ltb-false x p t in
        let d : x + (M - p) ≡ x - p + M = omega arith in
        let e : (x % M + (M - p)) % M ≡ x - p = ap (λ (n : ℕ). n % M) (whole ∙ d) ∙ add-mod_right (x - p) M ∙ mod-eq_of_lt (omega arith) in
        omega (arith, e)

product_le : (b g : ℕ) → b < 2 ^ 54 → g < 2 ^ 52 → g * b + 2 ^ 56 ≤ 2 ^ 107
product_le b g B G = let x : g ≤ 2 ^ 52 = omega arith in let y : b ≤ 2 ^ 54 = omega arith in omega (arith, mul-le-mul x y)

-- with A, B and G as the program has them, in 128 bits
pub quotient_is : (a b g A B G : ℕ) → a < b → b < 2 ^ 54 → g < 2 ^ 52 → A ≡ a → B ≡ b → G ≡ g
    → ((A * 2 ^ 54) % 2 ^ 128 + (2 ^ 128 - G * B)) % 2 ^ 128 < 2 ^ 56
    → g * 256 + ((A * 2 ^ 54) % 2 ^ 128 + (2 ^ 128 - G * B)) % 2 ^ 128 * 256 / b ≡ a * 2 ^ 62 / b
quotient_is a b g A B G h hb hg eA eB eG small =
    let r = ((A * 2 ^ 54) % 2 ^ 128 + (2 ^ 128 - G * B)) % 2 ^ 128 in
    let p : G * B ≡ g * b = ap₂ (λ (x y : ℕ). x * y) eG eB in
    let x : A * 2 ^ 54 < 2 ^ 108 = omega (arith, eA) in
    let y : G * B + 2 ^ 56 ≤ 2 ^ 107 = omega (arith, p, product_le b g hb hg) in
    let l : G * B + r ≡ A * 2 ^ 54 = left (2 ^ 128) (A * 2 ^ 54) (G * B) (lt_of_lt_of_le x (lit≤ tt)) (le_trans y (lit≤ tt)) small in
    let P : 0 < b = omega arith in
    let e : g * 256 * b + r * 256 ≡ a * 2 ^ 62 = shifted (g * b) r (a * 2 ^ 54) g a b refl refl (ap (λ (n : ℕ). n + r) (sym p) ∙ l ∙ ap (λ (n : ℕ). n * 2 ^ 54) eA) in
    sym (mul-add-div_right P (g * 256) (r * 256)) ∙ ap (λ (n : ℕ). n / b) e
  where
    shifted : (p r x g a b : ℕ) → p ≡ g * b → x ≡ a * 2 ^ 54 → p + r ≡ x → g * 256 * b + r * 256 ≡ a * 2 ^ 62
    shifted p r x g a b e f l = omega (arith, e, f, l)

-- A finite double above 0 is its significand times a power of two.
use mathlib.Core.Path.{◌≡◌, refl, ap, sym, ◌∙◌, subst, subst₂}
use mathlib.Core.Bool.{Bool, true, false, cond}
use Prim.Native.Nat.{ℕ, zero, suc, ◌+◌, ◌-◌, ◌*◌, ◌/◌, ◌%◌, ◌^◌, ◌≤◌, ◌<◌}
use native.Mathlib.Nat.{eq_of_mul-eq-mul_right, mod-lt, zero-lt-suc}
use native.Mathlib.Omega.{arith}
use lib.Dec.{T, leb, eqb, eqb-suc-zero, lt→ltb, lit<}
use lib.Pow.{pow-add}
use lib.Pow as Pow
use lib.Ieee.{Float, nan, inf, fin, binary64, up, down, fits, odd, of_fields, of_bits, to_bits, ones, hid, top}
use lib.Ieee.Bits.{of_bits-to_bits}
use lib.Ieee.Exact.{HasValue, odd_sign}
use lib.Ieee.Positive.{positive, value_pos, first_pos}
use Rattle.float_bits.specs.double.Parts.{field, digits, scale, places, leading, parts_of, significand, exponent, InPlace}
use Rattle.float_bits.specs.declared.double.Parts.{Parts}
use Rattle.float_bits.specs.declared.double.Kind.TheVariants.{Positive}
use Rattle.float_bits.specs.double.Kind.{kind_of}
use Rattle.float_bits.proofs.double.Leading.{places_le, lead_low, lead_high}

-- ---- from one fraction to another of the same size
carry : (R Q v P a c : ℕ) → 0 < P → a * P ≡ v * c → R * P ≡ v * Q → R * c ≡ a * Q
carry R Q v P a c p e h = eq_of_mul-eq-mul_right P p (R * c) (a * Q) (omega (arith, ap (λ (x : ℕ). x * Q) e, ap (λ (x : ℕ). x * c) h))

pub rescale : (x : Float) (s : Bool) (v P a c : ℕ) → 0 < P → a * P ≡ v * c → HasValue x s v P → HasValue x s a c
rescale nan s v P a c p e h = h
rescale (inf t) s v P a c p e h = h
rescale (fin t m j) s v P a c p e h = (h.0, carry (m * up j) (down j) v P a c p e h.1)

-- ---- what a pattern's fields stand for
none : (b s : Bool) → T (positive (cond b (inf s) nan)) → ⊥
none true s p = p
none false s p = p

pick : (b c s : Bool) (w v : Float) (q x : ℕ) → HasValue w s (q * 2 ^ x) (2 ^ 1074) → cond b (cond c (inf s) nan) w ≡ v → T (positive v) → HasValue v s (q * 2 ^ x) (2 ^ 1074)
pick true c s w v q x h e p = absurd (none c s (subst (λ (y : Float). T (positive y)) (sym e) p))
pick false c s w v q x h e p = subst (λ (y : Float). HasValue y s (q * 2 ^ x) (2 ^ 1074)) e h

read : (s : Bool) (x t : ℕ) (v : Float) → of_fields binary64 s x t ≡ v → T (positive v) → HasValue v s (cond (eqb x 0) t (2 ^ 52 + t) * 2 ^ (x - 1)) (2 ^ 1074)
unfolding of_fields
read s zero t v e p = subst (λ (y : Float). HasValue y s (t * 2 ^ 0) (2 ^ 1074)) e (odd_sign 53 s t 0 1074)
read s (suc x) t v e p =
    subst₂ (λ (b : Bool) (y : ℕ). HasValue v s (cond b t (2 ^ 52 + t) * 2 ^ y) (2 ^ 1074)) (sym (eqb-suc-zero x)) (omega arith)
    (pick (eqb (suc x) (ones binary64)) (eqb t 0) s (odd 53 s (2 ^ 52 + t) x 1074) v (2 ^ 52 + t) x (odd_sign 53 s (2 ^ 52 + t) x 1074) e p)

signed : (v : Float) (s : Bool) (a c : ℕ) → T (positive v) → HasValue v s a c → HasValue v false a c
signed nan s a c p h = h
signed (inf t) s a c p h = h
signed (fin true m e) s a c p h = absurd p
signed (fin false m e) s a c p h = (refl, h.1)

bits_value : (x : Float) → T (fits binary64 x) → T (positive x) → HasValue x false (digits (to_bits binary64 x) * 2 ^ scale (to_bits binary64 x)) (2 ^ 1074)
unfolding of_bits
bits_value x f p =
    let n = to_bits binary64 x in
    signed x (leb (top binary64) n) _ _ p
    (subst (λ (y : ℕ). HasValue x (leb (top binary64) n) (cond (eqb y 0) (n % 2 ^ 52) (2 ^ 52 + n % 2 ^ 52) * 2 ^ (y - 1)) (2 ^ 1074)) (Pow.field n 11 52)
    (read (leb (top binary64) n) (n % top binary64 / hid binary64) (n % hid binary64) x (of_bits-to_bits binary64 x f) p))

-- ---- the digits of a double above 0 are some, and at most 53
pub digits_lt : (n : ℕ) → digits n < 2 ^ 53
digits_lt n = go (eqb (field n) 0) (n % 2 ^ 52) (mod-lt n (lit< tt))
  where
    go : (b : Bool) (t : ℕ) → t < 2 ^ 52 → cond b t (2 ^ 52 + t) < 2 ^ 53
    go true t h = omega arith
    go false t h = omega arith

pub digits_pos : (x : Float) → T (fits binary64 x) → T (positive x) → 0 < digits (to_bits binary64 x)
digits_pos x f p =
    let n = to_bits binary64 x in
    first_pos (digits n) (2 ^ scale n) (value_pos x (digits n * 2 ^ scale n) (2 ^ 1074) p (lit< tt) (bits_value x f p))

scale_le : (n : ℕ) → scale n ≤ 2046
scale_le n = omega (arith, mod-lt (n / 2 ^ 52) {m = 2 ^ 11} (lit< tt))

-- ---- the parts
moved : (q p k j : ℕ) → j + p ≡ k + 52 → q * 2 ^ p * 2 ^ j * 2 ^ 1074 ≡ q * 2 ^ k * 2 ^ 1126
moved q p k j e = by_parts q (2 ^ p) (2 ^ j) (2 ^ k) (2 ^ 1074) (2 ^ 52) (sym (pow-add 2 j p) ∙ ap (λ (n : ℕ). 2 ^ n) e ∙ pow-add 2 k 52)
  where
    by_parts : (q P J K A B : ℕ) → J * P ≡ K * B → q * P * J * A ≡ q * K * (A * B)
    by_parts q P J K A B e = omega (arith, ap (λ (n : ℕ). q * n * A) e)

module _ (x : Float) (f : T (fits binary64 x)) (p : T (positive x)) where
  abbrev q : ℕ
  q = digits (to_bits binary64 x)

  abbrev k : ℕ
  k = scale (to_bits binary64 x)

  pub value : HasValue x false (significand x * 2 ^ exponent x) (2 ^ 1126)
  unfolding significand exponent leading parts_of
  value =
      rescale x false (q * 2 ^ k) (2 ^ 1074) (q * 2 ^ places q * 2 ^ (k + 52 - places q)) (2 ^ 1126) (lit< tt)
      (moved q (places q) k (k + 52 - places q) (omega (arith, places_le q (digits_pos x f p)))) (bits_value x f p)

  pub significand_low : 2 ^ 52 ≤ significand x
  unfolding significand leading parts_of
  significand_low = lead_low q (digits_pos x f p) (digits_lt (to_bits binary64 x))

  pub significand_high : significand x < 2 ^ 53
  unfolding significand leading parts_of
  significand_high = lead_high q (digits_pos x f p) (digits_lt (to_bits binary64 x))

  pub exponent_le : exponent x ≤ 2098
  unfolding exponent leading parts_of
  exponent_le = omega (arith, scale_le (to_bits binary64 x))

positive_in_place : (x : Float) → T (fits binary64 x) → T (positive x) → InPlace (parts_of (to_bits binary64 x))
unfolding significand exponent
positive_in_place x f p = record { low = significand_low x f p; high = significand_high x f p; most = exponent_le x f p }

pub kind_positive : (x : Float) (p : Parts) → kind_of x ≡ Positive p → T (positive x)
unfolding kind_of
kind_positive nan p e = let z : ◌≡◌ {A = ℕ} 0 1 = cc in omega arith
kind_positive (inf true) p e = let z : ◌≡◌ {A = ℕ} 0 1 = cc in omega arith
kind_positive (inf false) p e = let z : ◌≡◌ {A = ℕ} 0 1 = cc in omega arith
kind_positive (fin s zero d) p e = let z : ◌≡◌ {A = ℕ} 0 1 = cc in absurd (omega arith)
kind_positive (fin true (suc m) d) p e = let z : ◌≡◌ {A = ℕ} 0 1 = cc in omega arith
kind_positive (fin false (suc m) d) p e = lt→ltb 0 (suc m) (zero-lt-suc m)

pub kind_parts : (x : Float) (p : Parts) → kind_of x ≡ Positive p → parts_of (to_bits binary64 x) ≡ p
unfolding kind_of
kind_parts nan p e = cc
kind_parts (inf true) p e = cc
kind_parts (inf false) p e = cc
kind_parts (fin s zero d) p e = cc
kind_parts (fin true (suc m) d) p e = cc
kind_parts (fin false (suc m) d) p e = cc

pub in_place : (x : Float) (p : Parts) → T (fits binary64 x) → kind_of x ≡ Positive p → InPlace p
in_place x p f e = subst InPlace (kind_parts x p e) (positive_in_place x f (kind_positive x p e))

-- Nothing else is read as a number, a word or a tag: the bytes of a field in form are those that are written for its value.
use Prim.Native.Nat.{ℕ, zero, suc, ◌+◌, ◌-◌, ◌*◌, ◌/◌, ◌%◌, ◌^◌, ◌≤◌, ◌<◌, min}
use mathlib.Core.Path.{◌≡◌, refl, sym, ap, ap₂, ◌∙◌}
use mathlib.Core.Bool.{Bool, true, false, cond}
use mathlib.Core.List.{List, [], ◌∷◌, ◌++◌, append_assoc}
use native.Mathlib.Nat.{pow-suc, mul_assoc, mul-le-mul_right, add-mul}
use native.Mathlib.Omega.{arith}
use lib.ListN.{length, length-append}
use lib.Dec.{ltb, eqb}
use borrow.Author.Tests.{ltb-true, ltb-false, eqb-true, eqb-false}
use Rattle.sheet.specs.declared.Field.{Field}
use Rattle.sheet.specs.Field.{cap, nowhere, found, unfound, on_digit, digit_of, digits_from, number_at, end_at, word_at, tag_at}
use Rattle.sheet.specs.Line.{lf}
use Rattle.factor_output.specs.Print.{number, hex_digit, hexadecimal}
use Rattle.text_output.proofs.Numbers.{number_one, number_more, hex_low, hex_high, hexadecimal_more}

-- a field in form
abbrev Formed : Field → Type 0
Formed f = f.next ≡ nowhere → ⊥

-- ---- digits
-- a byte of a digit's value is that digit
digit_byte : (b : ℕ) → digit_of b < 16 → b ≡ hex_digit (digit_of b)
unfolding digit_of
digit_byte b h = go (ltb b 48) (ltb b 58) (ltb b 97) (ltb b 103) refl refl refl refl h
  where
    go : (t u v w : Bool) → ltb b 48 ≡ t → ltb b 58 ≡ u → ltb b 97 ≡ v → ltb b 103 ≡ w
        → cond t 16 (cond u (b - 48) (cond v 16 (cond w (b - 87) 16))) < 16 → b ≡ hex_digit (cond t 16 (cond u (b - 48) (cond v 16 (cond w (b - 87) 16))))
    go true u v w e f g k h = absurd (omega arith)
    go false true v w e f g k h =
        let low = ltb-false b 48 e in
        let high = ltb-true b 58 f in
        let same : b ≡ 48 + (b - 48) = omega arith in
        same ∙ hex_low (b - 48) (omega arith)
    go false false true w e f g k h = absurd (omega arith)
    go false false false true e f g k h =
        let low = ltb-false b 97 g in
        let high = ltb-true b 103 k in
        let same : b ≡ 87 + (b - 87) = omega arith in
        same ∙ hex_high (b - 87) (omega arith)
    go false false false false e f g k h = absurd (omega arith)

decimal_byte : (b : ℕ) → digit_of b < 10 → b ≡ 48 + digit_of b
decimal_byte b h = digit_byte b (omega arith) ∙ sym (hex_low (digit_of b) h)

-- ---- a number
digits_least : (end v at : ℕ) (l : List ℕ) → Formed (digits_from end v at l) → min v cap ≤ (digits_from end v at l).value
unfolding digits_from
digits_least end v at [] h = absurd (h refl)
digits_least end v at (b ∷ l) h =
    go (ltb (digit_of b) 10) (eqb v 0) (eqb b end) (digits_least end (v * 10 + digit_of b) (at + 1) l) h
  where
    go : (t z e : Bool) → (Formed (digits_from end (v * 10 + digit_of b) (at + 1) l) → min (v * 10 + digit_of b) cap ≤ (digits_from end (v * 10 + digit_of b) (at + 1) l).value)
        → Formed (on_digit t z (digits_from end (v * 10 + digit_of b) (at + 1) l) (cond e (found (min v cap) (at + 1)) unfound))
        → min v cap ≤ (on_digit t z (digits_from end (v * 10 + digit_of b) (at + 1) l) (cond e (found (min v cap) (at + 1)) unfound)).value
    go true true e more h = absurd (h refl)
    go true false e more h = omega (arith, more h)
    go false z true more h = omega arith
    go false z false more h = absurd (h refl)

-- what follows the digits of v: more digits, up to those of the value, and the byte that ends it
record Digits (end v at : ℕ) (l : List ℕ) (f : Field) : Type 0 where
  rest : List ℕ
  so : number v ++ l ≡ number f.value ++ (end ∷ rest)
  next : f.next + length (number v) ≡ at + length (number f.value) + 1

digits_only : (end v at : ℕ) (l : List ℕ) → v < cap → Formed (digits_from end v at l) → (digits_from end v at l).value < cap → Digits end v at l (digits_from end v at l)
unfolding digits_from
digits_only end v at [] s h g = absurd (h refl)
digits_only end v at (b ∷ l) s h g =
    let more = digits_from end (v * 10 + digit_of b) (at + 1) l in
    go (ltb (digit_of b) 10) (eqb v 0) (eqb b end) refl refl refl (digits_only end (v * 10 + digit_of b) (at + 1) l) h g
  where
    go : let more = digits_from end (v * 10 + digit_of b) (at + 1) l in
        (t z e : Bool) → ltb (digit_of b) 10 ≡ t → eqb v 0 ≡ z → eqb b end ≡ e
        → (v * 10 + digit_of b < cap → Formed more → more.value < cap → Digits end (v * 10 + digit_of b) (at + 1) l more)
        → Formed (on_digit t z more (cond e (found (min v cap) (at + 1)) unfound))
        → (on_digit t z more (cond e (found (min v cap) (at + 1)) unfound)).value < cap
        → Digits end v at (b ∷ l) (on_digit t z more (cond e (found (min v cap) (at + 1)) unfound))
    go true true e p q r more h g = absurd (h refl)
    go true false e p q r more h g =
        let d = digit_of b in
        let x = v * 10 + d in
        let low : d < 10 = ltb-true d 10 p in
        let some = eqb-false v 0 q in
        let m = more (omega (arith, digits_least end x (at + 1) l h)) h g in
        let tenth : x / 10 ≡ v = omega arith in
        let last : x % 10 ≡ d = omega arith in
        let n : number x ≡ number v ++ (b ∷ []) =
        number_more x (omega arith) (omega arith) ∙ ap₂ (λ (y c : ℕ). number y ++ ((48 + c) ∷ [])) tenth last
        ∙ ap (λ (c : ℕ). number v ++ (c ∷ [])) (sym (decimal_byte b low)) in
        record {
          rest = m.rest;
          so = sym (append_assoc (number v) (b ∷ []) l) ∙ ap (λ (y : List ℕ). y ++ l) (sym n) ∙ m.so;
          next = omega (arith, m.next, ap length n, length-append (number v) (b ∷ []));
        }
    go false z true p q r more h g =
        let same : min v cap ≡ v = omega arith in
        record {
          rest = l;
          so = ap₂ (λ (y c : ℕ). number y ++ (c ∷ l)) (sym same) (eqb-true b end r);
          next = rw same (omega arith);
        }
    go false z false p q r more h g = absurd (h refl)

-- the bytes of a number in form, below the number that stands for every larger one
pub record Number (end at : ℕ) (l : List ℕ) (f : Field) : Type 0 where
  pub rest : List ℕ
  pub so : l ≡ number f.value ++ (end ∷ rest)
  pub next : f.next ≡ at + length (number f.value) + 1

pub number_only : (end at : ℕ) (l : List ℕ) → Formed (number_at end at l) → (number_at end at l).value < cap → Number end at l (number_at end at l)
unfolding number_at
number_only end at [] h g = absurd (h refl)
number_only end at (b ∷ l) h g = go (ltb (digit_of b) 10) refl h g
  where
    go : let more = digits_from end (digit_of b) (at + 1) l in
        (t : Bool) → ltb (digit_of b) 10 ≡ t → Formed (cond t more unfound) → (cond t more unfound).value < cap → Number end at (b ∷ l) (cond t more unfound)
    go true p h g =
        let low = ltb-true (digit_of b) 10 p in
        let m = digits_only end (digit_of b) (at + 1) l (omega arith) h g in
        let n : number (digit_of b) ≡ b ∷ [] = number_one (digit_of b) low ∙ ap (λ (c : ℕ). c ∷ []) (sym (decimal_byte b low)) in
        record { rest = m.rest; so = ap (λ (y : List ℕ). y ++ l) (sym n) ∙ m.so; next = omega (arith, m.next, ap length n) }
    go false p h g = absurd (h refl)

-- ---- a word
hex_front : (n d x : ℕ) → d < 16 → x < 16 ^ n → hexadecimal (suc n) (d * 16 ^ n + x) ≡ hex_digit d ∷ hexadecimal n x
unfolding hexadecimal
hex_front zero d x h g =
    let e : d * 16 ^ 0 + x ≡ d = omega arith in
    let m : d % 16 ≡ d = omega arith in
    ap (hexadecimal 1) e ∙ ap (λ (c : ℕ). hex_digit c ∷ []) m
hex_front (suc n) d x h g =
    let e : d * 16 ^ suc n ≡ d * 16 ^ n * 16 = ap (λ (y : ℕ). d * y) (pow-suc 16 n) ∙ sym (mul_assoc d (16 ^ n) 16) in
    let p : 16 ^ suc n ≡ 16 ^ n * 16 = pow-suc 16 n in
    let y = d * 16 ^ suc n + x in
    let front : y / 16 ≡ d * 16 ^ n + x / 16 = omega arith in
    let last : y % 16 ≡ x % 16 = omega arith in
    hexadecimal_more (suc n) y
    ∙ ap₂ (λ (a b : ℕ). hexadecimal (suc n) a ++ (hex_digit b ∷ [])) front last
    ∙ ap (λ (l : List ℕ). l ++ (hex_digit (x % 16) ∷ [])) (hex_front n d (x / 16) h (omega arith))
    ∙ ap (λ (l : List ℕ). hex_digit d ∷ l) (sym (hexadecimal_more n x))

-- n digits and the byte that ends them: the value goes on from v
record Digits16 (end n v at : ℕ) (l : List ℕ) (f : Field) : Type 0 where
  x : ℕ
  rest : List ℕ
  below : x < 16 ^ n
  so : l ≡ hexadecimal n x ++ (end ∷ rest)
  value : f.value ≡ v * 16 ^ n + x
  next : f.next ≡ at + n + 1

word_digits_only : (end n v at : ℕ) (l : List ℕ) → Formed (word_at end n v at l) → Digits16 end n v at l (word_at end n v at l)
unfolding word_at end_at hexadecimal
word_digits_only end zero v at [] h = absurd (h refl)
word_digits_only end zero v at (b ∷ l) h = go (eqb b end) refl h
  where
    go : (t : Bool) → eqb b end ≡ t → Formed (cond t (found v (at + 1)) unfound) → Digits16 end 0 v at (b ∷ l) (cond t (found v (at + 1)) unfound)
    go true e h = record { x = 0; rest = l; below = omega arith; so = ap (λ (c : ℕ). c ∷ l) (eqb-true b end e); value = omega arith; next = omega arith }
    go false e h = absurd (h refl)
word_digits_only end (suc n) v at [] h = absurd (h refl)
word_digits_only end (suc n) v at (b ∷ l) h = go (ltb (digit_of b) 16) refl (word_digits_only end n (v * 16 + digit_of b) (at + 1) l) h
  where
    go : let more = word_at end n (v * 16 + digit_of b) (at + 1) l in
        (t : Bool) → ltb (digit_of b) 16 ≡ t → (Formed more → Digits16 end n (v * 16 + digit_of b) (at + 1) l more) → Formed (cond t more unfound)
        → Digits16 end (suc n) v at (b ∷ l) (cond t more unfound)
    go true e more h =
        let d = digit_of b in
        let low : d < 16 = ltb-true d 16 e in
        let m = more h in
        let p : 16 ^ suc n ≡ 16 ^ n * 16 = pow-suc 16 n in
        let most : d ≤ 15 = omega arith in
        let regrouped : 16 ^ suc n ≡ 16 * 16 ^ n = omega arith in
        record {
          x = d * 16 ^ n + m.x;
          rest = m.rest;
          below = omega (arith, m.below, mul-le-mul_right (16 ^ n) most);
          so = ap₂ (λ (c : ℕ) (y : List ℕ). c ∷ y) (digit_byte b low) m.so ∙ ap (λ (y : List ℕ). y ++ (end ∷ m.rest)) (sym (hex_front n d m.x low m.below));
          value = omega (arith, m.value, add-mul (v * 16) d (16 ^ n), mul_assoc v 16 (16 ^ n), ap (λ (y : ℕ). v * y) regrouped);
          next = omega (arith, m.next);
        }
    go false e more h = absurd (h refl)

-- the bytes of a word in form
pub record WordOf (at : ℕ) (l : List ℕ) (f : Field) : Type 0 where
  pub rest : List ℕ
  pub below : f.value < 2 ^ 64
  pub so : l ≡ hexadecimal 16 f.value ++ (lf ∷ rest)
  pub next : f.next ≡ at + 17

pub word_only : (at : ℕ) (l : List ℕ) → Formed (word_at lf 16 0 at l) → WordOf at l (word_at lf 16 0 at l)
word_only at l h =
    let m = word_digits_only lf 16 0 at l h in
    let e : (word_at lf 16 0 at l).value ≡ m.x = omega (arith, m.value) in
    record { rest = m.rest; below = omega (arith, m.below); so = m.so ∙ ap (λ (y : ℕ). hexadecimal 16 y ++ (lf ∷ m.rest)) (sym e); next = omega (arith, m.next) }

-- ---- a tag
pub record Tagged (t : List ℕ) (at : ℕ) (l : List ℕ) (f : Field) : Type 0 where
  pub rest : List ℕ
  pub so : l ≡ t ++ rest
  pub next : f.next ≡ at + length t

pub tag_only : (t : List ℕ) (at : ℕ) (l : List ℕ) → Formed (tag_at t at l) → Tagged t at l (tag_at t at l)
unfolding tag_at
tag_only [] at l h = record { rest = l; so = refl; next = omega arith }
tag_only (b ∷ t) at [] h = absurd (h refl)
tag_only (b ∷ t) at (c ∷ l) h = go (eqb c b) refl (tag_only t (at + 1) l) h
  where
    go : (u : Bool) → eqb c b ≡ u → (Formed (tag_at t (at + 1) l) → Tagged t (at + 1) l (tag_at t (at + 1) l)) → Formed (cond u (tag_at t (at + 1) l) unfound)
        → Tagged (b ∷ t) at (c ∷ l) (cond u (tag_at t (at + 1) l) unfound)
    go true e more h =
        let m = more h in
        record { rest = m.rest; so = ap₂ (λ (x : ℕ) (y : List ℕ). x ∷ y) (eqb-true c b e) m.so; next = omega (arith, m.next) }
    go false e more h = absurd (h refl)

-- A number, a word and a tag are read back, each with the byte that ends it.
use Prim.Native.Nat.{ℕ, zero, suc, ◌+◌, ◌*◌, ◌/◌, ◌%◌, ◌^◌, ◌≤◌, ◌<◌}
use mathlib.Core.Path.{◌≡◌, refl, sym, ap, ap₂, ◌∙◌}
use mathlib.Core.Bool.{false}
use mathlib.Core.List.{List, [], ◌∷◌, ◌++◌, append_assoc}
use mathlib.Core.Logic.{by_cases}
use native.Mathlib.Nat.{pow-suc}
use native.Mathlib.Decide.{dec_lt}
use native.Mathlib.Omega.{arith}
use lib.ListN.{length, length-append}
use lib.Dec.{ltb}
use borrow.Author.Tests.{lt-ltb, le-ltb, ne_eqb, eq-eqb}
use Rattle.sheet.specs.Field.{cap, found, digit_of, digits_from, number_at, end_at, word_at, tag_at}
use Rattle.sheet.specs.Line.{tab, lf}
use Rattle.factor_output.specs.Print.{decimal, number, hex_digit, hexadecimal}
use Rattle.text_output.proofs.Numbers.{decimal_one, decimal_more, tenth_below, hex_low, hex_high}

-- ---- digits
digit_value : (d : ℕ) → d < 10 → digit_of (48 + d) ≡ d
unfolding digit_of
digit_value d h = rw (le-ltb (48 + d) 48 (omega arith), lt-ltb (48 + d) 58 (omega arith)) (omega arith)

letter_value : (d : ℕ) → 10 ≤ d → d < 16 → digit_of (87 + d) ≡ d
unfolding digit_of
letter_value d g h =
    rw (le-ltb (87 + d) 48 (omega arith), le-ltb (87 + d) 58 (omega arith), le-ltb (87 + d) 97 (omega arith), lt-ltb (87 + d) 103 (omega arith)) (omega arith)

hex_value : (d : ℕ) → d < 16 → digit_of (hex_digit d) ≡ d
hex_value d h =
    by_cases (dec_lt d 10)
    (λ l. ap digit_of (sym (hex_low d l)) ∙ digit_value d l)
    (λ l. ap digit_of (sym (hex_high d (omega arith))) ∙ letter_value d (omega arith) h)

-- ---- a number
number_first : (end at d : ℕ) (tail : List ℕ) → d < 10 → number_at end at ((48 + d) ∷ tail) ≡ digits_from end d (at + 1) tail
unfolding number_at
number_first end at d tail h = rw (digit_value d h, lt-ltb d 10 h)

-- one digit more, after digits that are not a lone 0
digit_more : (end v at d : ℕ) (tail : List ℕ) → 0 < v → d < 10 → digits_from end v at ((48 + d) ∷ tail) ≡ digits_from end (v * 10 + d) (at + 1) tail
unfolding digits_from
digit_more end v at d tail p h = rw (digit_value d h, lt-ltb d 10 h, ne_eqb v 0 (λ e. omega arith))

number_small : (end at n x : ℕ) (tail : List ℕ) → x < 10 → number_at end at (decimal (suc n) x ++ tail) ≡ digits_from end x (at + length (decimal (suc n) x)) tail
number_small end at n x tail l = rw (decimal_one n x l) (number_first end at x tail l)

number_digits : (end at n x : ℕ) (tail : List ℕ) → x < 10 ^ suc n
    → number_at end at (decimal (suc n) x ++ tail) ≡ digits_from end x (at + length (decimal (suc n) x)) tail
number_digits end at zero x tail h = number_small end at 0 x tail h
number_digits end at (suc n) x tail h =
    by_cases (dec_lt x 10)
    (number_small end at (suc n) x tail)
    (λ l. let d = decimal (suc n) (x / 10) in
    let b = 48 + x % 10 in
    let e : decimal (suc (suc n)) x ≡ d ++ (b ∷ []) = decimal_more (suc n) x (omega arith) in
    let long : length (d ++ (b ∷ [])) ≡ length d + 1 = length-append d (b ∷ []) in
    ap (λ (z : List ℕ). number_at end at (z ++ tail)) e
    ∙ ap (number_at end at) (append_assoc d (b ∷ []) tail)
    ∙ number_digits end at n (x / 10) (b ∷ tail) (tenth_below (suc n) x h)
    ∙ digit_more end (x / 10) (at + length d) (x % 10) tail (omega arith) (omega arith)
    ∙ ap₂ (λ (v a : ℕ). digits_from end v a tail) (omega arith) (omega (arith, long))
    ∙ ap (λ (z : List ℕ). digits_from end x (at + length z) tail) (sym e))

-- the byte that ends a number is no digit
number_end : (end v at : ℕ) (rest : List ℕ) → ltb (digit_of end) 10 ≡ false → v ≤ cap → digits_from end v at (end ∷ rest) ≡ found v (at + 1)
unfolding digits_from
number_end end v at rest e h = rw (e, eq-eqb end end refl) (ap (λ (x : ℕ). found x (at + 1)) (omega arith))

-- the two bytes that end a number
pub tab_ends : ltb (digit_of tab) 10 ≡ false
unfolding digit_of
tab_ends = refl

pub lf_ends : ltb (digit_of lf) 10 ≡ false
unfolding digit_of
lf_ends = refl

pub number_read : (end at x : ℕ) (rest : List ℕ) → ltb (digit_of end) 10 ≡ false → x ≤ cap
    → number_at end at (number x ++ (end ∷ rest)) ≡ found x (at + length (number x) + 1)
number_read end at x rest e h = number_digits end at 19 x (end ∷ rest) (omega arith) ∙ number_end end x (at + length (number x)) rest e h

-- ---- a word
word_digit : (end m v at d : ℕ) (tail : List ℕ) → d < 16 → word_at end (suc m) v at (hex_digit d ∷ tail) ≡ word_at end m (v * 16 + d) (at + 1) tail
unfolding word_at
word_digit end m v at d tail h = rw (hex_value d h, lt-ltb d 16 h)

word_digits : (end m at n x : ℕ) (tail : List ℕ) → x < 16 ^ n → word_at end (n + m) 0 at (hexadecimal n x ++ tail) ≡ word_at end m x (at + n) tail
unfolding hexadecimal
word_digits end m at zero x tail h =
    ap (λ (k : ℕ). word_at end k 0 at tail) (omega arith) ∙ ap₂ (λ (v a : ℕ). word_at end m v a tail) (omega arith) (omega arith)
word_digits end m at (suc n) x tail h =
    let d = hexadecimal n (x / 16) in
    let b = hex_digit (x % 16) in
    let more : suc n + m ≡ n + suc m = omega arith in
    let below : x / 16 < 16 ^ n = (let e : 16 ^ suc n ≡ 16 ^ n * 16 = pow-suc 16 n in omega arith) in
    ap₂ (λ (k : ℕ) (l : List ℕ). word_at end k 0 at l) more (append_assoc d (b ∷ []) tail)
    ∙ word_digits end (suc m) at n (x / 16) (b ∷ tail) below
    ∙ word_digit end m (x / 16) (at + n) (x % 16) tail (omega arith)
    ∙ ap₂ (λ (v a : ℕ). word_at end m v a tail) (omega arith) (omega arith)

pub word_read : (at x : ℕ) (rest : List ℕ) → x < 2 ^ 64 → word_at lf 16 0 at (hexadecimal 16 x ++ (lf ∷ rest)) ≡ found x (at + 17)
unfolding word_at end_at
word_read at x rest h = word_digits lf 0 at 16 x (lf ∷ rest) h ∙ ap (found x) (omega arith)

-- ---- a tag
pub tag_read : (t : List ℕ) (at : ℕ) (rest : List ℕ) → tag_at t at (t ++ rest) ≡ found 0 (at + length t)
unfolding tag_at
tag_read [] at rest = ap (found 0) (omega arith)
tag_read (b ∷ t) at rest = rw (eq-eqb b b refl) (tag_read t (at + 1) rest ∙ ap (found 0) (omega arith))

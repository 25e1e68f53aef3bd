-- Digits written one by one, the front ones first, are the number.
use Prim.Native.Nat.{ℕ, suc, ◌+◌, ◌-◌, ◌/◌, ◌%◌, ◌^◌, ◌≤◌, ◌<◌}
use mathlib.Core.Path.{◌≡◌, sym, ap, subst, ◌∙◌}
use mathlib.Core.List.{List, [], ◌∷◌}
use native.Mathlib.Omega.{arith}
use lib.ListN.{length, length-append}
use lib.Ieee.{Float, binary64, to_bits}
use Rattle.storage.specs.Part.{store}
use Rattle.storage.proofs.Parts.{store_nil}
use Rattle.factor_output.specs.Print.{number, hex_digit, hexadecimal, word}
use Rattle.text_output.proofs.Numbers.{number_one, number_more, hexadecimal_more, hexadecimal_length}
use Rattle.text_output.specs.Written.{Put}
use Rattle.text_output.proofs.Written.{put_then}

-- ---- in decimal

-- how many digits there are: one below 10, else one more than the tenth has
pub digits_one : (x : ℕ) → x < 10 → length (number x) ≡ 1
digits_one x h = ap length (number_one x h)

pub digits_more : (x : ℕ) → x < 2 ^ 64 → 10 ≤ x → length (number x) ≡ length (number (x / 10)) + 1
digits_more x h g = ap length (number_more x h g) ∙ length-append (number (x / 10)) ((48 + x % 10) ∷ [])

-- a number below 10 is written as its digit
pub digits_one_put : (at x : ℕ) (w : List ℕ) {r : ℕ} {w' : List ℕ} → x < 10 → Put at ((48 + x) ∷ []) w r w' → Put at (number x) w r w'
digits_one_put at x w {r} {w'} h p = subst (λ (l : List ℕ). Put at l w r w') (sym (number_one x h)) p

-- any other as its tenth and the last digit behind
pub digits_more_put : (at x : ℕ) (w : List ℕ) {r r' : ℕ} {w' w'' : List ℕ} → x < 2 ^ 64 → 10 ≤ x → at + length (number x) ≤ length w
    → Put at (number (x / 10)) w r w' → Put r ((48 + x % 10) ∷ []) w' r' w'' → Put at (number x) w r' w''
digits_more_put at x w {r' = r'} {w'' = w''} h g fits p q =
    subst (λ (l : List ℕ). Put at l w r' w'') (sym (number_more x h g))
    (put_then at (number (x / 10)) ((48 + x % 10) ∷ []) w (omega (arith, digits_more x h g)) p q)

-- ---- in hexadecimal

-- no digits are written by writing nothing
pub hexadecimal_none_put : (at n x : ℕ) (w : List ℕ) → n ≡ 0 → (at ≡ at + n) × (w ≡ store at (hexadecimal n x) w)
unfolding hexadecimal
hexadecimal_none_put at n x w e = (omega arith, sym (ap (λ (k : ℕ). store at (hexadecimal k x) w) e ∙ store_nil at w))

-- n + 1 digits, as the n of the sixteenth and the last behind
one_more_lem : (at n x : ℕ) (w : List ℕ) {r r' d : ℕ} {w' w'' : List ℕ} → at + suc n ≤ length w → (r ≡ at + n) × (w' ≡ store at (hexadecimal n (x / 16)) w)
    → d ≡ hex_digit (x % 16) → Put r (d ∷ []) w' r' w'' → (r' ≡ at + suc n) × (w'' ≡ store at (hexadecimal (suc n) x) w)
one_more_lem at n x w {r} {r'} {w' = w'} {w'' = w''} fits p e q =
    let k = hexadecimal_length n (x / 16) in
    let b : Put r (hex_digit (x % 16) ∷ []) w' r' w'' = subst (λ (c : ℕ). Put r (c ∷ []) w' r' w'') e q in
    let both = put_then at (hexadecimal n (x / 16)) (hex_digit (x % 16) ∷ []) w (omega arith) (omega (arith, p.0), p.1) b in
    (omega (arith, p.0, q.0), both.1 ∙ ap (λ (l : List ℕ). store at l w) (sym (hexadecimal_more n x)))

-- the same for any n that is not 0
pub hexadecimal_more_put : (at n x : ℕ) (w : List ℕ) {r r' d : ℕ} {w' w'' : List ℕ} → (n ≡ 0 → ⊥) → at + n ≤ length w
    → (r ≡ at + (n - 1)) × (w' ≡ store at (hexadecimal (n - 1) (x / 16)) w) → d ≡ hex_digit (x % 16) → Put r (d ∷ []) w' r' w''
    → (r' ≡ at + n) × (w'' ≡ store at (hexadecimal n x) w)
hexadecimal_more_put at n x w {r} {r'} {w' = w'} {w'' = w''} some fits p e q =
    let k : suc (n - 1) ≡ n = omega arith in
    subst (λ (m : ℕ). (r' ≡ at + m) × (w'' ≡ store at (hexadecimal m x) w)) k (one_more_lem at (n - 1) x w (omega arith) p e q)

-- the 16 digits of a double's word
pub word_put : (at : ℕ) (x : Float) (w : List ℕ) {r n : ℕ} {w' : List ℕ} → n ≡ to_bits binary64 x → (r ≡ at + 16) × (w' ≡ store at (hexadecimal 16 n) w)
    → (r ≡ at + 16) × (w' ≡ store at (word x) w)
word_put at x w e p = (p.0, p.1 ∙ ap (λ (k : ℕ). store at (hexadecimal 16 k) w) e)

-- Numbers in decimal: 20 digits hold any u64, a number is the digits of its tenth and one more, and a number below 10 ^ n has at most n.
use Prim.Native.Nat.{ℕ, zero, suc, ◌+◌, ◌-◌, ◌*◌, ◌/◌, ◌%◌, ◌^◌, ◌≤◌, ◌<◌}
use mathlib.Core.Path.{◌≡◌, refl, sym, ap, subst, ◌∙◌}
use mathlib.Core.Bool.{Bool, cond}
use mathlib.Core.List.{List, [], ◌∷◌, ◌++◌}
use mathlib.Core.Logic.{by_cases}
use native.Mathlib.Nat.{pow-suc}
use native.Mathlib.Decide.{dec_lt}
use native.Mathlib.Omega.{arith}
use lib.ListN.{length, length-append}
use borrow.Author.Tests.{lt-ltb, le-ltb}
use Rattle.factor_output.specs.Print.{decimal, number, hex_digit, hexadecimal}

-- a number below 10 is one digit
pub decimal_one : (n x : ℕ) → x < 10 → decimal (suc n) x ≡ (48 + x) ∷ []
unfolding decimal
decimal_one n x h = ap (λ (b : Bool). cond b ((48 + x) ∷ []) (decimal n (x / 10) ++ ((48 + x % 10) ∷ []))) (lt-ltb x 10 h)

-- any other is the digits of its tenth and one more
pub decimal_more : (n x : ℕ) → 10 ≤ x → decimal (suc n) x ≡ decimal n (x / 10) ++ ((48 + x % 10) ∷ [])
unfolding decimal
decimal_more n x h = ap (λ (b : Bool). cond b ((48 + x) ∷ []) (decimal n (x / 10) ++ ((48 + x % 10) ∷ []))) (le-ltb x 10 h)

-- a number of n + 1 digits has a tenth of n
pub tenth_below : (n x : ℕ) → x < 10 ^ suc n → x / 10 < 10 ^ n
tenth_below n x h = let e : 10 ^ suc n ≡ 10 ^ n * 10 = pow-suc 10 n in omega arith

-- where n + 1 digits hold a number, room for k more changes nothing
pub decimal_enough : (n k x : ℕ) → x < 10 ^ suc n → decimal (suc (n + k)) x ≡ decimal (suc n) x
decimal_enough zero k x h = decimal_one (0 + k) x h ∙ sym (decimal_one 0 x h)
decimal_enough (suc n) k x h =
    by_cases (dec_lt x 10)
    (λ l. decimal_one (suc n + k) x l ∙ sym (decimal_one (suc n) x l))
    (λ l. let g : 10 ≤ x = omega arith in
    let e : suc n + k ≡ suc (n + k) = omega arith in
    decimal_more (suc n + k) x g
    ∙ ap (λ (m : ℕ). decimal m (x / 10) ++ ((48 + x % 10) ∷ [])) e
    ∙ ap (λ (d : List ℕ). d ++ ((48 + x % 10) ∷ [])) (decimal_enough n k (x / 10) (tenth_below (suc n) x h))
    ∙ sym (decimal_more (suc n) x g))

-- n digits at most are n at most
pub decimal_length : (n x : ℕ) → length (decimal n x) ≤ n
unfolding decimal
decimal_length zero x = omega arith
decimal_length (suc n) x =
    by_cases (dec_lt x 10)
    (λ l. subst (λ (d : List ℕ). length d ≤ suc n) (sym (decimal_one n x l)) (omega arith))
    (λ l. let e : length (decimal n (x / 10) ++ ((48 + x % 10) ∷ [])) ≡ length (decimal n (x / 10)) + 1 = length-append (decimal n (x / 10)) ((48 + x % 10) ∷ []) in
    subst (λ (d : List ℕ). length d ≤ suc n) (sym (decimal_more n x (omega arith))) (omega (arith, decimal_length n (x / 10))))

-- ---- numbers, of 20 digits at most

-- a number below 10 is its digit
pub number_one : (x : ℕ) → x < 10 → number x ≡ (48 + x) ∷ []
number_one x h = decimal_one 19 x h

-- a word's number is the number of its tenth and one digit more
pub number_more : (x : ℕ) → x < 2 ^ 64 → 10 ≤ x → number x ≡ number (x / 10) ++ ((48 + x % 10) ∷ [])
number_more x h g =
    decimal_more 19 x g ∙ ap (λ (d : List ℕ). d ++ ((48 + x % 10) ∷ [])) (sym (decimal_enough 18 1 (x / 10) (omega arith)))

-- no number has more than 20 digits
pub number_length : (x : ℕ) → length (number x) ≤ 20
number_length x = decimal_length 20 x

-- a number below 10 ^ n has at most n digits; 0 has one, so n is not 0
pub number_short : (n x : ℕ) → 0 < n → x < 10 ^ n → length (number x) ≤ n
number_short (suc n) x p h =
    by_cases (dec_lt n 20)
    (λ l. let e : suc (n + (19 - n)) ≡ 20 = omega arith in
    subst (λ (d : List ℕ). length d ≤ suc n) (sym (decimal_enough n (19 - n) x h) ∙ ap (λ (m : ℕ). decimal m x) e) (decimal_length (suc n) x))
    (λ l. omega (arith, number_length x))
number_short zero x p h = omega arith

-- ---- hexadecimal

-- a digit is 0 to 9, or a to f
pub hex_low : (d : ℕ) → d < 10 → 48 + d ≡ hex_digit d
hex_low d h = ap (λ (b : Bool). cond b (48 + d) (87 + d)) (sym (lt-ltb d 10 h))

pub hex_high : (d : ℕ) → 10 ≤ d → 87 + d ≡ hex_digit d
hex_high d h = ap (λ (b : Bool). cond b (48 + d) (87 + d)) (sym (le-ltb d 10 h))

-- one digit more is the last, behind those of the sixteenth
pub hexadecimal_more : (n x : ℕ) → hexadecimal (suc n) x ≡ hexadecimal n (x / 16) ++ (hex_digit (x % 16) ∷ [])
unfolding hexadecimal
hexadecimal_more n x = refl

-- the last n digits are n
pub hexadecimal_length : (n x : ℕ) → length (hexadecimal n x) ≡ n
unfolding hexadecimal
hexadecimal_length zero x = refl
hexadecimal_length (suc n) x = length-append (hexadecimal n (x / 16)) (hex_digit (x % 16) ∷ []) ∙ omega (arith, hexadecimal_length n (x / 16))

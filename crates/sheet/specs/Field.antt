-- The fields of a line (document 01, Record 1): a number, a word, a tag, each with the byte that ends it.
use Rattle.std.specs.Prelude.{ℕ, zero, suc, ◌+◌, ◌-◌, ◌*◌, ◌/◌, ◌%◌, min, List, [], ◌∷◌, Bool, true, false, not, cond, ltb, eqb}
use Rattle.sheet.specs.declared.Field.{Field}

-- the position past a field or a line that is not in form: nothing stands there
abbrev pub nowhere : ℕ
nowhere = 18446744073709551615

-- a field in form: its value, and the position past the byte that ends it
abbrev pub found : ℕ → ℕ → Field
found v next = record { value = v; next = next }

-- no field in form
abbrev pub unfound : Field
unfound = found 0 nowhere

-- the value of a lower-case hexadecimal digit, and 16 for any other byte
unfoldable pub digit_of : ℕ → ℕ
digit_of b = cond (ltb b 48) 16 (cond (ltb b 58) (b - 48) (cond (ltb b 97) 16 (cond (ltb b 103) (b - 87) 16)))

-- Every range of Record 1 ends below this number. A number may have any length: a larger one is shown as this, so it is out of range and never wraps.
abbrev pub cap : ℕ
cap = 10000000000

-- A digit after a lone 0 makes that a leading zero; after any other digits the number goes on. Any other byte: `done` says whether it ends the number.
abbrev pub on_digit : Bool → Bool → Field → Field → Field
on_digit true true more done = unfound
on_digit true false more done = more
on_digit false lone_zero more done = done

-- the digits up to the byte `end`: v so far, and `at` the position of the list's first byte
unfoldable pub digits_from : ℕ → ℕ → ℕ → List ℕ → Field
digits_from end v at [] = unfound
digits_from end v at (b ∷ rest) =
    let more = digits_from end (v * 10 + digit_of b) (at + 1) rest in
    on_digit (ltb (digit_of b) 10) (eqb v 0) more (cond (eqb b end) (found (min v cap) (at + 1)) unfound)

-- a number with no leading zero: one digit, or more, up to the byte `end`
unfoldable pub number_at : ℕ → ℕ → List ℕ → Field
number_at end at [] = unfound
number_at end at (b ∷ rest) =
    let more = digits_from end (digit_of b) (at + 1) rest in
    cond (ltb (digit_of b) 10) more unfound

-- the byte `end` after the value v
unfoldable pub end_at : ℕ → ℕ → ℕ → List ℕ → Field
end_at end v at [] = unfound
end_at end v at (b ∷ rest) = cond (eqb b end) (found v (at + 1)) unfound

-- n more hexadecimal digits, the highest first, and the byte `end`: v so far
unfoldable pub word_at : ℕ → ℕ → ℕ → ℕ → List ℕ → Field
word_at end zero v at l = end_at end v at l
word_at end (suc n) v at [] = unfound
word_at end (suc n) v at (b ∷ rest) =
    let more = word_at end n (v * 16 + digit_of b) (at + 1) rest in
    cond (ltb (digit_of b) 16) more unfound

-- the bytes of a tag
unfoldable pub tag_at : List ℕ → ℕ → List ℕ → Field
tag_at [] at l = found 0 at
tag_at (t ∷ ts) at [] = unfound
tag_at (t ∷ ts) at (b ∷ rest) =
    let more = tag_at ts (at + 1) rest in
    cond (eqb b t) more unfound

-- a word is neither infinite nor NaN: the bits of its exponent are not all ones
unfoldable pub is_finite : ℕ → Bool
is_finite w = not (eqb (w % 9223372036854775808 / 4503599627370496) 2047)

-- a word is +0 or -0: no bit but the sign's
unfoldable pub is_zero : ℕ → Bool
is_zero w = eqb (w % 9223372036854775808) 0

-- What the program prints (document 01, "Worked sheets"): `pivot` block row word, or `refused` number place place.
use Rattle.std.specs.Prelude.{ℕ, zero, suc, ◌+◌, ◌/◌, ◌%◌, cond, List, [], ◌∷◌, ◌++◌, ltb, Float}
use Rattle.std.specs.Float.{binary64}
use Rattle.std.specs.Float.Ieee.{to_bits}
use Rattle.sheet.specs.Line.{tab, lf}

-- a number in decimal, of n digits at most
unfoldable pub decimal : ℕ → ℕ → List ℕ
decimal zero x = []
decimal (suc n) x = let front = decimal n (x / 10) in cond (ltb x 10) ((48 + x) ∷ []) (front ++ ((48 + x % 10) ∷ []))

abbrev pub number : ℕ → List ℕ
number x = decimal 20 x

-- a lower-case hexadecimal digit, and the last n of a number
abbrev pub hex_digit : ℕ → ℕ
hex_digit d = cond (ltb d 10) (48 + d) (87 + d)

unfoldable pub hexadecimal : ℕ → ℕ → List ℕ
hexadecimal zero x = []
hexadecimal (suc n) x = hexadecimal n (x / 16) ++ (hex_digit (x % 16) ∷ [])

-- a double's word; of every NaN it is 7ff8000000000000
abbrev pub word : Float → List ℕ
word x = hexadecimal 16 (to_bits binary64 x)

abbrev pub pivot_tag : List ℕ
pivot_tag = 112 ∷ 105 ∷ 118 ∷ 111 ∷ 116 ∷ tab ∷ []

abbrev pub refused_tag : List ℕ
refused_tag = 114 ∷ 101 ∷ 102 ∷ 117 ∷ 115 ∷ 101 ∷ 100 ∷ tab ∷ []

unfoldable pub pivot_line : ℕ → ℕ → Float → List ℕ
unfolding decimal hexadecimal
pivot_line j r x = pivot_tag ++ number j ++ (tab ∷ number r) ++ (tab ∷ word x) ++ (lf ∷ [])

unfoldable pub refused_line : ℕ → ℕ → ℕ → List ℕ
unfolding decimal
refused_line n a b = refused_tag ++ number n ++ (tab ∷ number a) ++ (tab ∷ number b) ++ (lf ∷ [])

-- What a call of `factor` leaves in the bytes that it is lent.
use Rattle.std.specs.Prelude.{ℕ, ◌≤◌, ◌<◌, ◌≡◌, List, length, take, drop}
use Rattle.factor_output.specs.Program.{print_of}

-- The input is s, the bytes lent are w, and out at exit. No text has more than 131,072 bytes: where w has fewer, the answer is 0 and every byte is as
-- it was. Else the answer n is the length of the text that is printed for s; the first n bytes are that text, and those behind it are as they were.
abbrev pub Written : List ℕ → List ℕ → ℕ → List ℕ → Type 0
Written s w n out =
    (n ≤ 131072)
    × (length w < 131072 → (n ≡ 0) × (out ≡ w))
    × (131072 ≤ length w → (take n out ≡ print_of s) × (drop n out ≡ drop n w))

-- What the table of digits holds (document 01, Record 1).
use Rattle.std.specs.Prelude.{ℕ, cond, ltb}
use Rattle.sheet.specs.Field.{digit_of}

-- the entry of a byte: its value as a digit, or 255
unfoldable pub mark : ℕ → ℕ
mark b = cond (ltb (digit_of b) 16) (digit_of b) 255

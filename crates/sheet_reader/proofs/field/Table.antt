-- The table of digits: its rule is tested at each of the 256 entries once, and so holds at any byte.
use Rattle.std.proofs.Common.{◌≡◌, ℕ, ◌<◌, ◌≤◌, Bool, T, eqb, List, length, get_or, refl, arith, eqb→eq, le-ltb, lt-ltb}
use mathlib.Core.Logic.{by_cases}
use native.Mathlib.Decide.{dec_lt}
use Rattle.storage.proofs.Table.{every, entry}
use Rattle.sheet.specs.Field.{digit_of}
use Rattle.sheet_reader.specs.word_field.Mark.{mark}

-- the rule of the table: x is the entry of the byte b
unfoldable pub right : ℕ → ℕ → Bool
right b x = eqb x (mark b)

-- the rule, tested at each entry of a list, holds at any byte
pub marks : (xs : List ℕ) → T (every right 0 xs) → (b : ℕ) → b < length xs → get_or xs b 0 ≡ mark b
unfolding right
marks xs t b h = eqb→eq (get_or xs b 0) (mark b) (entry right xs t b h)

-- an entry is a digit's value or 255, so at most 255
pub mark_digit : (b : ℕ) → digit_of b < 16 → mark b ≡ digit_of b
unfolding mark
mark_digit b h = rw (lt-ltb (digit_of b) 16 h) refl

pub mark_other : (b : ℕ) → 16 ≤ digit_of b → mark b ≡ 255
unfolding mark
mark_other b h = rw (le-ltb (digit_of b) 16 h) refl

pub mark_most : {d : ℕ} (b : ℕ) → d ≡ mark b → d ≤ 255
mark_most b q =
    by_cases (dec_lt (digit_of b) 16) (λ (h : digit_of b < 16). omega (arith, q, mark_digit b h)) (λ h. omega (arith, q, mark_other b (omega arith)))

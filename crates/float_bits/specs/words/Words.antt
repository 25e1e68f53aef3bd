-- The order in which words stand as doubles.
use Rattle.std.specs.Prelude.{ℕ, ◌+◌, ◌-◌, ◌^◌, Bool, ◌&&◌, cond, leb, ltb, Float}
use Rattle.std.specs.Float.{binary64}
use Rattle.std.specs.Float.Ieee.{to_bits}

-- a word's place in the order of doubles, from the negative NaNs up: -0 is just below +0, and the larger size comes first among negative words
abbrev pub rank : ℕ → ℕ
rank w = cond (ltb w (2 ^ 63)) (2 ^ 63 + w) (2 ^ 64 - 1 - w)

-- r is from lower to upper in that order, where a NaN stands for the word 7ff8000000000000. Where the two words are one, r has that word (proofs/words/Order.antt).
abbrev pub agrees_of : ℕ → ℕ → Float → Bool
agrees_of lower upper r = leb (rank lower) (rank (to_bits binary64 r)) && leb (rank (to_bits binary64 r)) (rank upper)

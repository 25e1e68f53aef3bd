-- Where lower and upper are one word, a result agrees only if it has that word: +0 and -0 are told apart.
use Prim.Native.Nat.{ℕ, ◌+◌, ◌-◌, ◌^◌, ◌≤◌, ◌<◌}
use mathlib.Core.Path.{◌≡◌, refl, ap}
use mathlib.Core.Bool.{Bool, true, false, cond, and-eq-true_iff}
use native.Mathlib.Omega.{arith}
use borrow.Author.Tests.{ltb-true, ltb-false, leb-true}
use lib.Dec.{T, ltb, leb}
use lib.Ieee.{Float, binary64, fits, to_bits}
use lib.Ieee.Bits.{to_bits-lt}
use Rattle.float_bits.specs.words.Words.{rank, agrees_of}

-- a word below 2^63 keeps its order above the middle, and one from 2^63 on has the opposite order below it
ranked : (w : ℕ) (b : Bool) → ltb w (2 ^ 63) ≡ b → rank w ≡ cond b (2 ^ 63 + w) (2 ^ 64 - 1 - w)
ranked w b e = ap (λ (c : Bool). cond c (2 ^ 63 + w) (2 ^ 64 - 1 - w)) e

apart : (a b : ℕ) (p q : Bool) → ltb a (2 ^ 63) ≡ p → ltb b (2 ^ 63) ≡ q → a < 2 ^ 64 → b < 2 ^ 64 → rank a ≡ rank b → a ≡ b
apart a b true true e f h k s = omega (arith, ranked a true e, ranked b true f)
apart a b true false e f h k s = omega (arith, ranked a true e, ranked b false f, ltb-true a (2 ^ 63) e, ltb-false b (2 ^ 63) f)
apart a b false true e f h k s = omega (arith, ranked a false e, ranked b true f, ltb-false a (2 ^ 63) e, ltb-true b (2 ^ 63) f)
apart a b false false e f h k s = omega (arith, ranked a false e, ranked b false f)

pub one_word : (w : ℕ) (r : Float) → w < 2 ^ 64 → T (fits binary64 r) → agrees_of w w r ≡ true → to_bits binary64 r ≡ w
one_word w r h f a =
    let n = to_bits binary64 r in
    let both = (and-eq-true_iff (leb (rank w) (rank n)) (leb (rank n) (rank w))).0 a in
    let low : rank w ≤ rank n = leb-true (rank w) (rank n) both.0 in
    let high : rank n ≤ rank w = leb-true (rank n) (rank w) both.1 in
    let s : rank n ≡ rank w = omega (arith, low, high) in
    apart n w _ _ refl refl (to_bits-lt binary64 r f) h s

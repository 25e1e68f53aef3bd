-- What the functions' proofs cite of the definitions.
use Prim.Native.Nat.{ℕ, ◌%◌, ◌<◌}
use mathlib.Core.Path.{◌≡◌, refl, sym, ap, ap₂, ◌∙◌}
use mathlib.Core.Bool.{true, false, ◌&&◌, true≢false}
use borrow.Author.Tests.{lt-ltb}
use lib.Dec.{leb}
use lib.Ieee.{Float, nan, inf, fin, binary64, is_nan, of_bits, to_bits}
use lib.Ieee.Bits.{nan_bits_is, nan_bits_above}
use Rattle.float_bits.specs.words.Words.{rank, agrees_of}

-- ---- NaNs
no : {A : Type 0} → true ≡ false → A
no e = absurd (true≢false e)

the_nan : (v : Float) → is_nan v ≡ true → nan ≡ v
unfolding is_nan
the_nan nan e = refl
the_nan (inf s) e = no (sym e)
the_nan (fin s m x) e = no (sym e)

nan_is : of_bits binary64 9221120237041090560 ≡ nan
unfolding of_bits
nan_is = refl

pub nan_of_bits : (n : ℕ) → 9218868437227405312 < n % 9223372036854775808 → of_bits binary64 9221120237041090560 ≡ of_bits binary64 n
nan_of_bits n h =
    nan_is
    ∙ the_nan (of_bits binary64 n) (sym (nan_bits_is binary64 n) ∙ nan_bits_above binary64 n ∙ lt-ltb 9218868437227405312 (n % 9223372036854775808) h)

nan_bits : 9221120237041090560 ≡ to_bits binary64 nan
unfolding to_bits
nan_bits = refl

pub bits_of_nan : (x : Float) → is_nan x ≡ true → 9221120237041090560 ≡ to_bits binary64 x
bits_of_nan x t = nan_bits ∙ ap (to_bits binary64) (the_nan x t)

-- ---- the comparison
pub between : (lower upper : ℕ) (r : Float) {n w a b : ℕ} → n ≡ to_bits binary64 r → w ≡ rank n → a ≡ rank lower → b ≡ rank upper → leb a w && leb w b ≡ agrees_of lower upper r
between lower upper r {n} {w} e f g h =
    ap₂ (λ (a b : ℕ). leb a w && leb w b) g h
    ∙ ap (λ (v : ℕ). leb (rank lower) v && leb v (rank upper)) (f ∙ ap rank e)

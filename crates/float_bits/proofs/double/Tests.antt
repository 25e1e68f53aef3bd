-- The tests that tell the kinds apart.
use mathlib.Core.Path.{◌≡◌, refl, sym, ◌∙◌, subst}
use mathlib.Core.Bool.{Bool, true, false, not, ◌&&◌, ◌||◌, beq, true≢false, and-eq-true_iff}
use Prim.Native.Nat.{ℕ, zero, suc, ◌+◌, ◌*◌, ◌<◌}
use native.Mathlib.Nat.{mul-pos, zero-lt-suc}
use native.Mathlib.Omega.{arith}
use borrow.Author.Tests.{lt-ltb, eq-eqb, ltb-true, eqb-true}
use lib.Dec.{T, ltb, eqb}
use lib.Ieee.{Float, nan, inf, fin, binary64, up, down, lt, eq, of_bits, to_bits, is_nan}
use lib.Ieee.Fits.{up_pos}
use lib.Ieee.Positive.{positive}
use Rattle.float_bits.specs.declared.double.Kind.TheVariants.{Positive, Zero, Negative, PlusInfinity, NotANumber}
use Rattle.float_bits.specs.double.Parts.{parts_of}
use Rattle.float_bits.specs.double.Kind.{kind_of}

no : {A : Type 0} → true ≡ false → A
no e = absurd (true≢false e)

on : {A : Type 0} → false ≡ true → A
on e = absurd (true≢false (sym e))

-- ---- above 0 and below +infinity
none_above : (a b : ℕ) → ltb (0 * 1 * a) (0 * b * 1) ≡ true → ⊥
none_above a b t = let h : 0 * 1 * a < 0 * b * 1 = ltb-true (0 * 1 * a) (0 * b * 1) t in omega arith

pub above : (x : Float) → lt (of_bits binary64 0) x ≡ true → lt x (of_bits binary64 9218868437227405312) ≡ true → T (positive x)
unfolding lt of_bits
above nan a b = on a
above (inf false) a b = on b
above (inf true) a b = on a
above (fin true m e) a b = on a
above (fin false zero e) a b = absurd (none_above (down e) (up e) a)
above (fin false (suc m) e) a b = subst T (sym (lt-ltb 0 (suc m) (zero-lt-suc m))) tt

pub not_nan : (x : Float) → T (positive x) → T (not (is_nan x))
unfolding is_nan
not_nan nan p = absurd p
not_nan (inf s) p = tt
not_nan (fin s m e) p = tt

pub at_positive : (x : Float) → T (positive x) → Positive (parts_of (to_bits binary64 x)) ≡ kind_of x
unfolding kind_of
at_positive nan p = absurd p
at_positive (inf s) p = absurd p
at_positive (fin true m e) p = absurd p
at_positive (fin false zero e) p = absurd p
at_positive (fin false (suc m) e) p = refl

pub at_infinity : (x : Float) → lt (of_bits binary64 0) x ≡ true → lt x (of_bits binary64 9218868437227405312) ≡ false → PlusInfinity ≡ kind_of x
unfolding kind_of lt of_bits
at_infinity nan a b = on a
at_infinity (inf false) a b = refl
at_infinity (inf true) a b = on a
at_infinity (fin s m e) a b = no b

-- ---- below 0
zero_below : (a b : ℕ) → ltb a (0 * 1 * b) ≡ true → ⊥
zero_below a b t = let h : a < 0 * 1 * b = ltb-true a (0 * 1 * b) t in omega arith

none_below : (a b d : ℕ) → ltb 0 (0 * a * d + 0 * 1 * b) ≡ true → ⊥
none_below a b d t = let h : 0 < 0 * a * d + 0 * 1 * b = ltb-true 0 (0 * a * d + 0 * 1 * b) t in omega arith

pub at_negative : (x : Float) → lt x (of_bits binary64 0) ≡ true → Negative ≡ kind_of x
unfolding kind_of lt of_bits
at_negative nan t = on t
at_negative (inf false) t = on t
at_negative (inf true) t = refl
at_negative (fin false zero e) t = absurd (zero_below (0 * up e * 1) (down e) t)
at_negative (fin false (suc m) e) t = absurd (zero_below (suc m * up e * 1) (down e) t)
at_negative (fin true zero e) t = absurd (none_below (up e) (down e) 1 t)
at_negative (fin true (suc m) e) t = refl

-- ---- 0
not_zero : (m a b : ℕ) → 0 < a → eqb (suc m * a * 1) (0 * b) ≡ true → ⊥
not_zero m a b h t =
    let e : suc m * a * 1 ≡ 0 * b = eqb-true (suc m * a * 1) (0 * b) t in
    let p : 0 < suc m * a = mul-pos (zero-lt-suc m) h in
    omega arith

pub at_zero : (x : Float) → eq x (of_bits binary64 0) ≡ true → Zero ≡ kind_of x
unfolding kind_of eq of_bits
at_zero nan t = on t
at_zero (inf s) t = on t
at_zero (fin s zero e) t = refl
at_zero (fin false (suc m) e) t = absurd (not_zero m (up e) (down e) (up_pos e) ((and-eq-true_iff _ _).0 t).0)
at_zero (fin true (suc m) e) t = absurd (not_zero m (up e) (down e) (up_pos e) ((and-eq-true_iff _ _).0 t).0)

-- ---- and what is left
none_equal : (a b : ℕ) → eqb (0 * a * 1) (0 * b) ≡ true
none_equal a b = eq-eqb (0 * a * 1) (0 * b) (omega arith)

or_right : (a b : Bool) → b ≡ true → a || b ≡ true
or_right true b e = refl
or_right false b e = e

zero_is : (s : Bool) (a b : ℕ) → eqb (0 * a * 1) (0 * b) && (beq s false || eqb (0 * a * 1) 0) ≡ true
zero_is s a b = (and-eq-true_iff _ _).1 (none_equal a b, or_right (beq s false) _ (eq-eqb (0 * a * 1) 0 (omega arith)))

some_below : (m a b : ℕ) → 0 < a → ltb 0 (suc m * a * 1 + 0 * b) ≡ true
some_below m a b h = let p : 0 < suc m * a = mul-pos (zero-lt-suc m) h in lt-ltb 0 (suc m * a * 1 + 0 * b) (omega arith)

some_above : (m a b : ℕ) → 0 < a → ltb (0 * 1 * b) (suc m * a * 1) ≡ true
some_above m a b h = let p : 0 < suc m * a = mul-pos (zero-lt-suc m) h in lt-ltb (0 * 1 * b) (suc m * a * 1) (omega arith)

pub at_nan : (x : Float) → lt (of_bits binary64 0) x ≡ false → lt x (of_bits binary64 0) ≡ false → eq x (of_bits binary64 0) ≡ false → NotANumber ≡ kind_of x
unfolding kind_of lt eq of_bits
at_nan nan a b c = refl
at_nan (inf false) a b c = no a
at_nan (inf true) a b c = no b
at_nan (fin s zero e) a b c = no (sym (zero_is s (up e) (down e)) ∙ c)
at_nan (fin true (suc m) e) a b c = no (sym (some_below m (up e) (down e) (up_pos e)) ∙ b)
at_nan (fin false (suc m) e) a b c = no (sym (some_above m (up e) (down e) (up_pos e)) ∙ a)

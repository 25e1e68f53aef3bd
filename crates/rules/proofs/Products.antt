-- A product of doubles with its factors exchanged, and with one of them negated.
use Prim.Native.Nat.{ℕ, zero, suc, ◌+◌, ◌-◌, ◌*◌, ◌/◌, ◌%◌, ◌^◌, compare}
use mathlib.Core.Path.{◌≡◌, refl, sym, ap, ap₂, ◌∙◌}
use mathlib.Core.Bool.{Bool, true, false, not, cond}
use native.Mathlib.Nat.{mul_comm}
use lib.Dec.{ltb, eqb}
use lib.Ieee.{Float, nan, inf, fin, binary64, Format, prec, emax, low, up, down, neg, mul, odd, units, nearest, size, round, unlike}
use Rattle.rules.specs.Arithmetic.{ieee}

-- ---- a product is the same double whichever factor comes first
unlike_swap : (s t : Bool) → unlike s t ≡ unlike t s
unlike_swap true true = refl
unlike_swap true false = refl
unlike_swap false true = refl
unlike_swap false false = refl

pub times_swap : (x y : Float) → ieee.times x y ≡ ieee.times y x
unfolding mul
times_swap nan nan = refl
times_swap nan (inf t) = refl
times_swap nan (fin t n d) = refl
times_swap (inf s) nan = refl
times_swap (inf s) (inf t) = ap inf (unlike_swap s t)
times_swap (inf s) (fin t n d) = ap (λ (b : Bool). cond (eqb n 0) nan (inf b)) (unlike_swap s t)
times_swap (fin s m e) nan = refl
times_swap (fin s m e) (inf t) = ap (λ (b : Bool). cond (eqb m 0) nan (inf b)) (unlike_swap s t)
times_swap (fin s m e) (fin t n d) =
    ap₂ (λ (b : Bool) (x : ℕ). round binary64 b x (down e * down d)) (unlike_swap s t) (mul_comm (m * up e) (n * up d))
    ∙ ap (round binary64 (unlike t s) (n * up d * (m * up e))) (mul_comm (down e) (down d))

-- ---- a product with a factor negated is the product negated
odd_negated : (d : ℕ) (s : Bool) (q k l : ℕ) → neg (odd d s q k l) ≡ odd d (not s) q k l
unfolding odd neg
odd_negated d s zero k l = refl
odd_negated d s (suc q) k l = refl

units_negated : (f : Format) (s : Bool) (q k : ℕ) (b : Bool) → neg (cond b (odd (suc (prec f)) s q k (low f)) (inf s)) ≡ cond b (odd (suc (prec f)) (not s) q k (low f)) (inf (not s))
unfolding neg
units_negated f s q k true = odd_negated (suc (prec f)) s q k (low f)
units_negated f s q k false = refl

unit_negated : (f : Format) (s : Bool) (q k : ℕ) → neg (units f s q k) ≡ units f (not s) q k
unfolding units
unit_negated f s q k = units_negated f s q k (ltb (q * 2 ^ k) (2 ^ (low f + suc (emax f))))

round_negated : (f : Format) (s : Bool) (n d : ℕ) → neg (round f s n d) ≡ round f (not s) n d
unfolding round
round_negated f s num den =
    let n : ℕ = num * 2 ^ low f in
    let k : ℕ = size (n / den) - prec f in
    let u : ℕ = den * 2 ^ k in
    unit_negated f s (nearest (n / u) (compare (n % u * 2) u)) k

unlike_negated : (s t : Bool) → unlike s (not t) ≡ not (unlike s t)
unlike_negated true true = refl
unlike_negated true false = refl
unlike_negated false true = refl
unlike_negated false false = refl

null_negated : (b s t : Bool) → cond b nan (inf (unlike s (not t))) ≡ neg (cond b nan (inf (unlike s t)))
unfolding neg
null_negated true s t = refl
null_negated false s t = ap inf (unlike_negated s t)

pub times_negated : (x y : Float) → ieee.times x (neg y) ≡ neg (ieee.times x y)
unfolding mul neg
times_negated nan nan = refl
times_negated nan (inf t) = refl
times_negated nan (fin t n d) = refl
times_negated (inf s) nan = refl
times_negated (inf s) (inf t) = ap inf (unlike_negated s t)
times_negated (inf s) (fin t n d) = null_negated (eqb n 0) s t
times_negated (fin s m e) nan = refl
times_negated (fin s m e) (inf t) = null_negated (eqb m 0) s t
times_negated (fin s m e) (fin t n d) =
    ap (λ (b : Bool). round binary64 b (m * up e * (n * up d)) (down e * down d)) (unlike_negated s t)
    ∙ sym (round_negated binary64 (unlike s t) (m * up e * (n * up d)) (down e * down d))

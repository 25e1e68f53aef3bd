-- The laws of fractions and of intervals.
use Rattle.std.proofs.Common.{◌≡◌, ℕ, ◌+◌, ◌*◌, ◌<◌, ◌≤◌, Bool, true, false, subst, le_of_eq, mul-le-mul_right, mul_assoc, mul_comm, mul-le-mul, add_comm, mul-le-mul_left, mul-pos, le_of_mul-le-mul_right, arith}
use native.Mathlib.Nat.{mul-mul-mul_comm}
use Rattle.logarithm.specs.exact_log.Fraction.{Fraction, over, negated, times, ◌⊞◌, ◌⊴◌, Same, Interval, ◌⊕◌, stretched, signed}

-- ---- the order
-- each fraction is at most itself
pub ⊴-refl : (x : Fraction) → x ⊴ x
⊴-refl x = omega arith

-- what is at most y is at most all that y is at most
pub ⊴-trans : (x y z : Fraction) → 0 < y.bot → x ⊴ y → y ⊴ z → x ⊴ z
⊴-trans x y z Y h k = le_of_mul-le-mul_right (omega (arith, mul-le-mul_right z.bot h, mul-le-mul_right x.bot k)) Y

-- equal fractions are the same number
pub same_of_eq : {x y : Fraction} → x ≡ y → Same x y
same_of_eq {x} {y} e = record { most = subst (λ (z : Fraction). x ⊴ z) e (⊴-refl x); least = subst (λ (z : Fraction). z ⊴ x) e (⊴-refl x) }

-- what is at most y + 1 / K for every K is at most y
pub ⊴-limit : (x y : Fraction) → ((K : ℕ) → 0 < K → x ⊴ (y ⊞ over 1 K)) → x ⊴ y
⊴-limit x y h =
    let K = x.bot * y.bot + 1 in
    from (x.plus * y.bot + y.minus * x.bot) (y.plus * x.bot + x.minus * y.bot) (x.bot * y.bot) (omega (arith, h K (omega arith)))
  where
    from : (a b p : ℕ) → a * (p + 1) ≤ b * (p + 1) + p → a ≤ b
    from a b p l = omega (arith, none)
      where
        none : ¬ (b + 1 ≤ a)
        none g = omega (arith, mul-le-mul_right (p + 1) g)

-- ---- sums, negatives and multiples
-- one side of the order of two sums
side : (x X y Y u U v W : ℕ) → (x * U + u * X) * (Y * W) + (y * W + v * Y) * (X * U) ≡ (x * Y + y * X) * (U * W) + (u * W + v * U) * (X * Y)
side x X y Y u U v W = omega arith

-- sums keep the order
pub ⊞-mono : (x y u v : Fraction) → x ⊴ y → u ⊴ v → (x ⊞ u) ⊴ (y ⊞ v)
⊞-mono x y u v h k =
    let below = side x.plus x.bot y.minus y.bot u.plus u.bot v.minus v.bot in
    let above = side y.plus y.bot x.minus x.bot v.plus v.bot u.minus u.bot in
    let f = mul-le-mul h (le_of_eq (mul_comm u.bot v.bot)) in
    let g = mul-le-mul k (le_of_eq (mul_comm x.bot y.bot)) in
    omega arith

-- what is added to both sides may be left out
pub ⊞-cancel : (x y z : Fraction) → 0 < z.bot → (x ⊞ z) ⊴ (y ⊞ z) → x ⊴ y
⊞-cancel x y z Z h = le_of_mul-le-mul_right (omega arith) (mul-pos Z Z)

-- the order and the grouping of a sum do not matter
pub ⊞-comm : (x y : Fraction) → x ⊞ y ≡ y ⊞ x
⊞-comm x y = λ i. record { plus = add_comm (x.plus * y.bot) (y.plus * x.bot) i; minus = add_comm (x.minus * y.bot) (y.minus * x.bot) i; bot = mul_comm x.bot y.bot i }

pub ⊞-assoc : (x y z : Fraction) → x ⊞ y ⊞ z ≡ x ⊞ (y ⊞ z)
⊞-assoc x y z =
    λ i. record {
      plus = spread x.plus x.bot y.plus y.bot z.plus z.bot i;
      minus = spread x.minus x.bot y.minus y.bot z.minus z.bot i;
      bot = mul_assoc x.bot y.bot z.bot i;
    }
  where
    spread : (x X y Y z Z : ℕ) → (x * Y + y * X) * Z + z * (X * Y) ≡ x * (Y * Z) + (y * Z + z * Y) * X
    spread x X y Y z Z = omega arith

pub ⊞-swap : (x y u v : Fraction) → x ⊞ u ⊞ (y ⊞ v) ≡ x ⊞ y ⊞ (u ⊞ v)
⊞-swap x y u v =
    λ i. record {
      plus = side x.plus x.bot y.plus y.bot u.plus u.bot v.plus v.bot i;
      minus = side x.minus x.bot y.minus y.bot u.minus u.bot v.minus v.bot i;
      bot = mul-mul-mul_comm x.bot u.bot y.bot v.bot i;
    }

-- negatives turn the order round
pub negated_anti : (x y : Fraction) → x ⊴ y → negated y ⊴ negated x
negated_anti x y h = omega arith

-- multiples keep the order
pub times_mono : (k : ℕ) (x y : Fraction) → x ⊴ y → times k x ⊴ times k y
times_mono k x y h = omega (arith, mul-le-mul_left k h)

-- ---- an interval whose ends are fractions: neither bot is 0. So are sums, multiples and negatives of such
pub record Proper (i : Interval) : Type 0 where
  pub low_pos : 0 < i.low.bot
  pub high_pos : 0 < i.high.bot

pub proper_sum : {i j : Interval} → Proper i → Proper j → Proper (i ⊕ j)
proper_sum p q = record { low_pos = mul-pos p.low_pos q.low_pos; high_pos = mul-pos p.high_pos q.high_pos }

pub proper_stretched : (k : ℕ) {i : Interval} → Proper i → Proper (stretched k i)
proper_stretched k p = record { low_pos = p.low_pos; high_pos = p.high_pos }

pub proper_signed : (b : Bool) {i : Interval} → Proper i → Proper (signed b i)
proper_signed false p = p
proper_signed true p = record { low_pos = omega (arith, p.low_pos, p.high_pos); high_pos = omega (arith, p.low_pos, p.high_pos) }

-- ---- intervals that overlap: each one's low is at most the other's high. Their sums, multiples and negatives do too
pub record Overlap (i j : Interval) : Type 0 where
  pub ahead : i.low ⊴ j.high
  pub back : j.low ⊴ i.high

pub overlap_sum : {i i' j j' : Interval} → Overlap i i' → Overlap j j' → Overlap (i ⊕ j) (i' ⊕ j')
overlap_sum {i} {i'} {j} {j'} p q =
    record {
      ahead = ⊞-mono i.low i'.high j.low j'.high p.ahead q.ahead;
      back = ⊞-mono i'.low i.high j'.low j.high p.back q.back;
    }

pub overlap_stretched : (k : ℕ) {i j : Interval} → Overlap i j → Overlap (stretched k i) (stretched k j)
overlap_stretched k {i} {j} p =
    record { ahead = times_mono k i.low j.high p.ahead; back = times_mono k j.low i.high p.back }

pub overlap_signed : (b : Bool) {i j : Interval} → Overlap i j → Overlap (signed b i) (signed b j)
overlap_signed false p = p
overlap_signed true {i} {j} p =
    record { ahead = negated_anti j.low i.high p.back; back = negated_anti i.low j.high p.ahead }

-- ---- an interval of a width of at most w. Widths add up, are multiplied, and stay under a negative
pub record Narrow (w : Fraction) (i : Interval) : Type 0 where
  pub width : i.high ⊴ (i.low ⊞ w)

pub narrow_sum : {v w : Fraction} {i j : Interval} → Narrow v i → Narrow w j → Narrow (v ⊞ w) (i ⊕ j)
narrow_sum {v} {w} {i} {j} p q =
    record { width = subst (λ (z : Fraction). (i.high ⊞ j.high) ⊴ z) (⊞-swap i.low j.low v w) (⊞-mono i.high (i.low ⊞ v) j.high (j.low ⊞ w) p.width q.width) }

pub narrow_stretched : (k : ℕ) {w : Fraction} {i : Interval} → Narrow w i → Narrow (times k w) (stretched k i)
narrow_stretched k {w} {i} p = record { width = omega (arith, times_mono k i.high (i.low ⊞ w) p.width) }

pub narrow_signed : (b : Bool) {w : Fraction} {i : Interval} → Narrow w i → Narrow w (signed b i)
narrow_signed false p = p
narrow_signed true {w} {i} p = record { width = omega (arith, p.width) }

-- the bound may be larger
pub narrow_wider : {v w : Fraction} {i : Interval} → 0 < v.bot → Proper i → v ⊴ w → Narrow v i → Narrow w i
narrow_wider {v} {w} {i} B P h p =
    record { width = ⊴-trans i.high (i.low ⊞ v) (i.low ⊞ w) (mul-pos P.low_pos B) p.width (⊞-mono i.low i.low v w (⊴-refl i.low) h) }

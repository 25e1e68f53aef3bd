-- There is an exact arithmetic: the field of three elements, where only 1 is not refused. So `Exact` asks for nothing impossible.
use Prim.Native.Nat.{ℕ, zero, suc}
use mathlib.Core.Path.{◌≡◌, refl}
use mathlib.Core.Bool.{Bool, true, false, true≢false}
use Rattle.rules.specs.Arithmetic.{Arithmetic}
use Rattle.rules.specs.Exact.{Exact}

data Three : Type 0 where
  zero_three : Three
  unit : Three
  minus_unit : Three

abbrev sum : Three → Three → Three
sum zero_three zero_three = zero_three
sum zero_three unit = unit
sum zero_three minus_unit = minus_unit
sum unit zero_three = unit
sum unit unit = minus_unit
sum unit minus_unit = zero_three
sum minus_unit zero_three = minus_unit
sum minus_unit unit = zero_three
sum minus_unit minus_unit = unit

abbrev difference : Three → Three → Three
difference zero_three zero_three = zero_three
difference zero_three unit = minus_unit
difference zero_three minus_unit = unit
difference unit zero_three = unit
difference unit unit = zero_three
difference unit minus_unit = minus_unit
difference minus_unit zero_three = minus_unit
difference minus_unit unit = unit
difference minus_unit minus_unit = zero_three

abbrev product : Three → Three → Three
product zero_three zero_three = zero_three
product zero_three unit = zero_three
product zero_three minus_unit = zero_three
product unit zero_three = zero_three
product unit unit = unit
product unit minus_unit = minus_unit
product minus_unit zero_three = zero_three
product minus_unit unit = minus_unit
product minus_unit minus_unit = unit

abbrev quotient : Three → Three → Three
quotient zero_three zero_three = zero_three
quotient zero_three unit = zero_three
quotient zero_three minus_unit = zero_three
quotient unit zero_three = zero_three
quotient unit unit = unit
quotient unit minus_unit = minus_unit
quotient minus_unit zero_three = zero_three
quotient minus_unit unit = minus_unit
quotient minus_unit minus_unit = unit

abbrev is_zero : Three → Bool
is_zero zero_three = true
is_zero unit = false
is_zero minus_unit = false

abbrev no_root : Three → Bool
no_root zero_three = true
no_root unit = false
no_root minus_unit = true

abbrev is_unit : Three → Bool
is_unit zero_three = false
is_unit unit = true
is_unit minus_unit = false

abbrev of_whole : ℕ → Three
of_whole zero = zero_three
of_whole (suc n) = sum (of_whole n) unit

abbrev three : Arithmetic
three =
    record {
      Num = Three;
      zero = zero_three;
      one = unit;
      two = minus_unit;
      tau = unit;
      whole = of_whole;
      plus = sum;
      minus = difference;
      times = product;
      over = quotient;
      root = λ x. x;
      log = λ x. x;
      refused = no_root;
      above = is_unit;
      null = is_zero;
    }

three_is_exact : Exact three
three_is_exact = record { zero_plus = zero_plus; plus_minus = plus_minus; plus_zero = plus_zero; minus_zero = minus_zero; times_zero = times_zero; zero_times = zero_times; minus_plus = minus_plus; over_times = over_times; root_square = root_square; root_some = root_some }
  where
    zero_plus : (a : Three) → sum zero_three a ≡ a
    zero_plus zero_three = refl
    zero_plus unit = refl
    zero_plus minus_unit = refl

    plus_minus : (a b p : Three) → sum (sum a p) (difference b p) ≡ sum a b
    plus_minus zero_three zero_three zero_three = refl
    plus_minus zero_three zero_three unit = refl
    plus_minus zero_three zero_three minus_unit = refl
    plus_minus zero_three unit zero_three = refl
    plus_minus zero_three unit unit = refl
    plus_minus zero_three unit minus_unit = refl
    plus_minus zero_three minus_unit zero_three = refl
    plus_minus zero_three minus_unit unit = refl
    plus_minus zero_three minus_unit minus_unit = refl
    plus_minus unit zero_three zero_three = refl
    plus_minus unit zero_three unit = refl
    plus_minus unit zero_three minus_unit = refl
    plus_minus unit unit zero_three = refl
    plus_minus unit unit unit = refl
    plus_minus unit unit minus_unit = refl
    plus_minus unit minus_unit zero_three = refl
    plus_minus unit minus_unit unit = refl
    plus_minus unit minus_unit minus_unit = refl
    plus_minus minus_unit zero_three zero_three = refl
    plus_minus minus_unit zero_three unit = refl
    plus_minus minus_unit zero_three minus_unit = refl
    plus_minus minus_unit unit zero_three = refl
    plus_minus minus_unit unit unit = refl
    plus_minus minus_unit unit minus_unit = refl
    plus_minus minus_unit minus_unit zero_three = refl
    plus_minus minus_unit minus_unit unit = refl
    plus_minus minus_unit minus_unit minus_unit = refl

    minus_plus : (p x : Three) → difference (sum p x) p ≡ x
    minus_plus zero_three zero_three = refl
    minus_plus zero_three unit = refl
    minus_plus zero_three minus_unit = refl
    minus_plus unit zero_three = refl
    minus_plus unit unit = refl
    minus_plus unit minus_unit = refl
    minus_plus minus_unit zero_three = refl
    minus_plus minus_unit unit = refl
    minus_plus minus_unit minus_unit = refl

    plus_zero : (a : Three) → sum a zero_three ≡ a
    plus_zero zero_three = refl
    plus_zero unit = refl
    plus_zero minus_unit = refl

    minus_zero : (a : Three) → difference a zero_three ≡ a
    minus_zero zero_three = refl
    minus_zero unit = refl
    minus_zero minus_unit = refl

    times_zero : (a : Three) → product a zero_three ≡ zero_three
    times_zero zero_three = refl
    times_zero unit = refl
    times_zero minus_unit = refl

    zero_times : (a : Three) → product zero_three a ≡ zero_three
    zero_times zero_three = refl
    zero_times unit = refl
    zero_times minus_unit = refl

    over_times : (a d : Three) → is_zero d ≡ false → product (quotient a d) d ≡ a
    over_times zero_three zero_three e = absurd (true≢false e)
    over_times zero_three unit e = refl
    over_times zero_three minus_unit e = refl
    over_times unit zero_three e = absurd (true≢false e)
    over_times unit unit e = refl
    over_times unit minus_unit e = refl
    over_times minus_unit zero_three e = absurd (true≢false e)
    over_times minus_unit unit e = refl
    over_times minus_unit minus_unit e = refl

    root_square : (x : Three) → no_root x ≡ false → product x x ≡ x
    root_square zero_three e = refl
    root_square unit e = refl
    root_square minus_unit e = absurd (true≢false e)

    root_some : (x : Three) → no_root x ≡ false → is_zero x ≡ false
    root_some zero_three e = e
    root_some unit e = refl
    root_some minus_unit e = refl

-- What it is to be near the exact logarithm, which is no number here but what lies in each of `exact_ln`'s intervals.
use Rattle.std.specs.Prelude.{ℕ, ◌*◌, true, false, T, Float}
use Rattle.std.specs.Float.{nan, inf, fin}
use Rattle.std.specs.Float.Ieee.{up, down}
use Rattle.std.specs.Float.Ieee.Scale.{finite}
use Rattle.std.specs.Float.Ieee.Positive.{num, den}
use Rattle.logarithm.specs.exact_log.Fraction.{Fraction, over, negated, ◌⊞◌, ◌⊴◌, Interval}
use Rattle.logarithm.specs.exact_log.Log.{exact_ln}

-- the number that a finite double is, and 0 for the others
abbrev pub value_of : Float → Fraction
value_of nan = over 0 1
value_of (inf s) = over 0 1
value_of (fin false m e) = over (m * up e) (down e)
value_of (fin true m e) = negated (over (m * up e) (down e))

-- 1 / A + |r| / B
abbrev pub slack : ℕ → ℕ → Float → Fraction
slack A B r = over 1 A ⊞ over (num r) (B * den r)

-- r is within the slack of the interval
pub record Near (A B : ℕ) (r : Float) (i : Interval) : Type 0 where
  pub above : i.low ⊴ (value_of r ⊞ slack A B r)
  pub below : value_of r ⊴ (i.high ⊞ slack A B r)

-- r is a finite double within 1 / A + |r| / B of ln x
pub record IsLn (A B : ℕ) (x r : Float) : Type 0 where
  pub is_finite : T (finite r)
  pub near : (N : ℕ) → Near A B r (exact_ln x N)

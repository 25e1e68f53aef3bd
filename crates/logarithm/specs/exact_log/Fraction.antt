-- Fractions with a sign, in whole numbers: sums, multiples, negatives and their order; and intervals of fractions.
use Rattle.std.specs.Prelude.{ℕ, ◌+◌, ◌*◌, ◌≤◌, Bool, true, false}

infixl 20 ◌⊞◌
infixl 20 ◌⊕◌
infix 10 ◌⊴◌
-- (plus - minus) / bot, for a bot above 0
pub record Fraction : Type 0 where
  pub plus : ℕ
  pub minus : ℕ
  pub bot : ℕ

-- a / b
abbrev pub over : ℕ → ℕ → Fraction
over a b = record { plus = a; minus = 0; bot = b }

-- -x
abbrev pub negated : Fraction → Fraction
negated x = record { plus = x.minus; minus = x.plus; bot = x.bot }

-- k * x
abbrev pub times : ℕ → Fraction → Fraction
times k x = record { plus = k * x.plus; minus = k * x.minus; bot = x.bot }

-- x + y
abbrev pub ◌⊞◌ : Fraction → Fraction → Fraction
x ⊞ y = record { plus = x.plus * y.bot + y.plus * x.bot; minus = x.minus * y.bot + y.minus * x.bot; bot = x.bot * y.bot }

-- x is at most y
abbrev pub ◌⊴◌ : Fraction → Fraction → Type 0
x ⊴ y = x.plus * y.bot + y.minus * x.bot ≤ y.plus * x.bot + x.minus * y.bot

-- the same number
pub record Same (x y : Fraction) : Type 0 where
  pub most : x ⊴ y
  pub least : y ⊴ x

-- from low to high
pub record Interval : Type 0 where
  pub low : Fraction
  pub high : Fraction

-- the sums of a number of one interval and a number of the other
abbrev pub ◌⊕◌ : Interval → Interval → Interval
i ⊕ j = record { low = i.low ⊞ j.low; high = i.high ⊞ j.high }

-- k times each number
abbrev pub stretched : ℕ → Interval → Interval
stretched k i = record { low = times k i.low; high = times k i.high }

-- each number, or where b is true its negative
abbrev pub signed : Bool → Interval → Interval
signed false i = i
signed true i = record { low = negated i.high; high = negated i.low }

pub record Inside (x : Fraction) (i : Interval) : Type 0 where
  pub above : i.low ⊴ x
  pub below : x ⊴ i.high

-- The exact logarithm of some doubles, computed, and what is near it.
use Rattle.std.proofs.Common.{ℕ, ◌^◌, true, false, pos, negsuc, lit≤, le→leb}
use lib.Ieee.{Float, fin, to_bits}
use Rattle.float_bits.specs.double.Parts.{significand, exponent}
use Rattle.logarithm.specs.exact_log.Fraction.{Fraction, over, negated, ◌⊴◌, Same}
use Rattle.logarithm.specs.exact_log.Artanh.{num}
use Rattle.logarithm.specs.exact_log.Log.{exact_ln}
use Rattle.logarithm.specs.fixed_point.Near.{Near}

-- with N terms the logarithm of x lies from p to q
abbrev Lies : Float → ℕ → Fraction → Fraction → Type 0
Lies x N p q = (p ⊴ (exact_ln x N).low) × ((exact_ln x N).high ⊴ q)

-- a / 10 ^ 6
abbrev micro : ℕ → Fraction
micro a = over a 1000000

-- of 1 it is 0
pub of_one : Same (exact_ln (fin false 1 (pos 0)) 3).low (over 0 1) × Same (exact_ln (fin false 1 (pos 0)) 3).high (over 0 1)
unfolding exact_ln significand exponent to_bits num
of_one = (record { most = lit≤ tt; least = lit≤ tt }, record { most = lit≤ tt; least = lit≤ tt })

-- of 2
pub of_two : Lies (fin false 1 (pos 1)) 8 (micro 693147) (micro 693148)
unfolding exact_ln significand exponent to_bits num
of_two = (lit≤ tt, lit≤ tt)

-- of 1/2
pub of_half : Lies (fin false 1 (negsuc 0)) 8 (negated (micro 693148)) (negated (micro 693147))
unfolding exact_ln significand exponent to_bits num
of_half = (lit≤ tt, lit≤ tt)

-- of 3
pub of_three : Lies (fin false 3 (pos 0)) 8 (micro 1098612) (micro 1098613)
unfolding exact_ln significand exponent to_bits num
of_three = (lit≤ tt, lit≤ tt)

-- of 10
pub of_ten : Lies (fin false 5 (pos 1)) 8 (micro 2302585) (micro 2302586)
unfolding exact_ln significand exponent to_bits num
of_ten = (lit≤ tt, lit≤ tt)

-- of the smallest double above 0, 2 ^ -1074
pub of_smallest : Lies (fin false 1 (negsuc 1073)) 11 (negated (micro 744440072)) (negated (micro 744440071))
unfolding exact_ln significand exponent to_bits num
of_smallest = (lit≤ tt, lit≤ tt)

-- ---- r is near ln x, by 16 terms
abbrev IsNear : Float → Float → Type 0
IsNear x r = Near (2 ^ 50) (2 ^ 52) r (exact_ln x 16)

-- 2 ^ -50 is near ln 1, and 2 ^ -49 is not
one_near : IsNear (fin false 1 (pos 0)) (fin false 1 (negsuc 49)) × (IsNear (fin false 1 (pos 0)) (fin false 1 (negsuc 48)) → ⊥)
unfolding exact_ln significand exponent to_bits num
one_near = (record { above = lit≤ tt; below = lit≤ tt }, λ h. le→leb _ _ h.below)

-- -744.4400719213812 is near ln (2 ^ -1074), 2 ^ -44.4 off, and -744.4400719213817, four units of the last place below it, is not
smallest_near : IsNear (fin false 1 (negsuc 1073)) (fin true 6548164122079683 (negsuc 42)) × (IsNear (fin false 1 (negsuc 1073)) (fin true 6548164122079687 (negsuc 42)) → ⊥)
unfolding exact_ln significand exponent to_bits num
smallest_near = (record { above = lit≤ tt; below = lit≤ tt }, λ h. le→leb _ _ h.above)

-- Worked values, computed by antt.
use mathlib.Core.Path.{◌≡◌, refl}
use mathlib.Core.Bool.{true, false}
use lib.IntN.{pos, negsuc}
use lib.Ieee.{nan, inf, fin}
use Rattle.square_root.specs.Root.{sqrt_of}

-- the root of 4.0 is 2.0
at_four : sqrt_of (fin false 1 (pos 2)) ≡ fin false 1 (pos 1)
unfolding sqrt_of
at_four = refl

-- of 2.0: 1.4142135623730951
at_two : sqrt_of (fin false 1 (pos 1)) ≡ fin false 6369051672525773 (negsuc 51)
unfolding sqrt_of
at_two = refl

-- of 0.1: 0.31622776601683794
at_tenth : sqrt_of (fin false 3602879701896397 (negsuc 54)) ≡ fin false 5696652996790543 (negsuc 53)
unfolding sqrt_of
at_tenth = refl

-- of the least double, 2^-1074: 2^-537
at_least : sqrt_of (fin false 1 (negsuc 1073)) ≡ fin false 1 (negsuc 536)
unfolding sqrt_of
at_least = refl

-- of 3 * 2^-1074
at_subnormal : sqrt_of (fin false 3 (negsuc 1073)) ≡ fin false 3900231685776981 (negsuc 587)
unfolding sqrt_of
at_subnormal = refl

-- of the largest double, 1.7976931348623157e308: 1.3407807929942596e154
at_most : sqrt_of (fin false 9007199254740991 (pos 971)) ≡ fin false 9007199254740991 (pos 459)
unfolding sqrt_of
at_most = refl

-- of -0, -1.0, +infinity and NaN
at_minus_zero : sqrt_of (fin true 0 (pos 0)) ≡ fin true 0 (pos 0)
unfolding sqrt_of
at_minus_zero = refl

at_minus_one : sqrt_of (fin true 1 (pos 0)) ≡ nan
unfolding sqrt_of
at_minus_one = refl

at_infinity : sqrt_of (inf false) ≡ inf false
unfolding sqrt_of
at_infinity = refl

at_nan : sqrt_of nan ≡ nan
unfolding sqrt_of
at_nan = refl

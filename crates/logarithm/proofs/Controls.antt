-- Worked values, computed by antt.
use Rattle.std.proofs.Common.{◌≡◌, true, false, pos, negsuc, refl}
use lib.Ieee.{fin, inf, nan}
use Rattle.logarithm.specs.Ln.{ln_of}

-- ln 1.0 is 0.0
at_one : ln_of (fin false 1 (pos 0)) ≡ fin false 0 (pos 0)
unfolding ln_of
at_one = refl

-- ln 2.0 is 0.6931471805599453
at_two : ln_of (fin false 1 (pos 1)) ≡ fin false 6243314768165359 (negsuc 52)
unfolding ln_of
at_two = refl

-- ln 0.5 is -0.6931471805599453
at_half : ln_of (fin false 1 (negsuc 0)) ≡ fin true 6243314768165359 (negsuc 52)
unfolding ln_of
at_half = refl

-- ln 10.0 is 2.302585092994046
at_ten : ln_of (fin false 5 (pos 1)) ≡ fin false 2592480341699211 (negsuc 49)
unfolding ln_of
at_ten = refl

-- ln 5e-324 is -744.4400719213812
at_least : ln_of (fin false 1 (negsuc 1073)) ≡ fin true 6548164122079683 (negsuc 42)
unfolding ln_of
at_least = refl

-- ln 1.7976931348623157e+308 is 709.782712893384
at_most : ln_of (fin false 9007199254740991 (pos 971)) ≡ fin false 6243314768165359 (negsuc 42)
unfolding ln_of
at_most = refl

-- ln 0.1 is -2.3025850929940455
at_tenth : ln_of (fin false 3602879701896397 (negsuc 54)) ≡ fin true 5184960683398421 (negsuc 50)
unfolding ln_of
at_tenth = refl

-- ln 1.5 is 0.4054651081081644
at_three_halves : ln_of (fin false 3 (negsuc 0)) ≡ fin false 1826052509787667 (negsuc 51)
unfolding ln_of
at_three_halves = refl

-- ln 0.75 is -0.2876820724517809
at_three_quarters : ln_of (fin false 3 (negsuc 1)) ≡ fin true 2591209748590025 (negsuc 52)
unfolding ln_of
at_three_quarters = refl

-- of -0.0, -1.0, +infinity
at_minus_zero : ln_of (fin true 0 (pos 0)) ≡ inf true
unfolding ln_of
at_minus_zero = refl

at_minus_one : ln_of (fin true 1 (pos 0)) ≡ nan
unfolding ln_of
at_minus_one = refl

at_infinity : ln_of (inf false) ≡ inf false
unfolding ln_of
at_infinity = refl

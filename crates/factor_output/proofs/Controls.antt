-- The program by computation: the worked input, and inputs that differ from it in one place. Each refusal is the only line.
use Prim.Native.String.{String}
use mathlib.Core.Path.{◌≡◌, refl}
use mathlib.Core.List.{List, [], ◌∷◌, ◌++◌}
use lib.ListN.{replicate}
use Rattle.sheet.specs.Text.{ended, with_line}
use Rattle.factor_output.specs.Worked.{sheet_lines, theta_lines, output_lines}
use Rattle.factor_output.specs.Compute.{printed}

abbrev input : List String
input = sheet_lines ++ theta_lines

worked : printed (ended input) ≡ ended output_lines
unfolding printed ended
worked = refl

-- ---- the theta part: line 9 missing, with another index, in capitals, and one byte left over
theta_missing : printed (ended sheet_lines) ≡ ended ("refused 2 9 0" ∷ [])
unfolding printed ended
theta_missing = refl

theta_index : printed (ended (with_line 9 "theta 1 3ff0000000000000" input)) ≡ ended ("refused 2 9 0" ∷ [])
unfolding printed ended
theta_index = refl

theta_form : printed (ended (with_line 9 "theta 0 3FF0000000000000" input)) ≡ ended ("refused 2 9 0" ∷ [])
unfolding printed ended
theta_form = refl

left_over : printed (ended input ++ (10 ∷ [])) ≡ ended ("refused 2 10 0" ∷ [])
unfolding printed ended
left_over = refl

-- an infinite theta is 14, list 0, index 0; but a 2 behind it comes first
theta_infinite : printed (ended (with_line 9 "theta 0 7ff0000000000000" input)) ≡ ended ("refused 14 0 0" ∷ [])
unfolding printed ended
theta_infinite = refl

two_first : printed (ended (with_line 9 "theta 0 7ff0000000000000" input) ++ (10 ∷ [])) ≡ ended ("refused 2 10 0" ∷ [])
unfolding printed ended
two_first = refl

-- a refused pivot: y'y 1 is too small, block 1, row 1
pivot_refused : printed (ended (with_line 8 "yy 3ff0000000000000" input)) ≡ ended ("refused 26 1 1" ∷ [])
unfolding printed ended
pivot_refused = refl

-- a NaN passes, as 7ff8000000000000: theta 2^600 squared is infinite, and Z'Z is absent
nan_pivot :
    printed (ended ("size 3 1 1 1 1" ∷ "block 1 1" ∷ "zx 0 0 4000000000000000" ∷ "zy 0 4010000000000000" ∷ "xx 0 0 4014000000000000" ∷ "xy 0 4018000000000000" ∷ "yy 4022000000000000" ∷ "theta 0 6570000000000000" ∷ []))
    ≡ ended ("pivot 0 0 7ff8000000000000" ∷ "pivot 1 0 7ff8000000000000" ∷ "pivot 1 1 7ff8000000000000" ∷ [])
unfolding printed ended
nan_pivot = refl

-- two blocks, the smaller one first in the sheet: block 0 is the larger. The numbers are those of a plain script (tools/factor_list.py).
abbrev two_blocks : List String
two_blocks =
    "size 5 1 3 2 1"
    ∷ "block 1 1"
    ∷ "block 2 1"
    ∷ "zz 0 0 4008000000000000"
    ∷ "zz 0 1 4000000000000000"
    ∷ "zz 0 2 3ff0000000000000"
    ∷ "zz 1 0 4000000000000000"
    ∷ "zz 1 1 4000000000000000"
    ∷ "zz 2 0 3ff0000000000000"
    ∷ "zz 2 2 3ff0000000000000"
    ∷ "zx 0 0 4008000000000000"
    ∷ "zx 1 0 4000000000000000"
    ∷ "zx 2 0 3ff0000000000000"
    ∷ "zy 0 4010000000000000"
    ∷ "zy 1 4008000000000000"
    ∷ "zy 2 3ff0000000000000"
    ∷ "xx 0 0 4014000000000000"
    ∷ "xy 0 4018000000000000"
    ∷ "yy 4040000000000000"
    ∷ "theta 0 3ff0000000000000"
    ∷ "theta 1 4000000000000000"
    ∷ []

abbrev two_pivots : List String
two_pivots =
    "pivot 0 0 4008000000000000"
    ∷ "pivot 0 1 4001e3779b97f4a8"
    ∷ "pivot 1 0 3ff314c3d92a9e91"
    ∷ "pivot 2 0 3ff83fab8b4d4315"
    ∷ "pivot 2 1 4013d11cfb190a01"
    ∷ []

sorted_blocks : printed (ended two_blocks) ≡ ended two_pivots
unfolding printed ended
sorted_blocks = refl

-- flag 0 is 5, before the theta part is read; 9 names its first line: entry (0, 1) of another value than its mirror, (1, 0)
flag_zero : printed (ended (with_line 1 "size 3 1 1 1 0" sheet_lines)) ≡ ended ("refused 5 0 0" ∷ [])
unfolding printed ended
flag_zero = refl

first_faulty : printed (ended (with_line 7 "zz 1 0 4000000000000001" two_blocks)) ≡ ended ("refused 9 5 0" ∷ [])
unfolding printed ended
first_faulty = refl

-- more bytes than it holds is 12, whatever they are
too_many : printed (replicate 32769 0) ≡ ended ("refused 12 0 0" ∷ [])
unfolding printed ended
too_many = refl

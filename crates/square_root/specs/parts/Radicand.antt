-- The square root of a double above 0, by its significand and exponent (document 01, Record 4, "Square root").
use Rattle.std.specs.Prelude.{ℕ, ◌+◌, ◌*◌, ◌/◌, ◌%◌, ◌^◌, false, Float}
use Rattle.std.specs.Float.Ieee.{odd}
use Rattle.float_bits.specs.declared.double.Parts.{Parts}
use Rattle.square_root.specs.whole_root.Whole.{rounded}

-- ---- of significand * 2 ^ exponent / 2 ^ 1126, which is radicand * 4 ^ half / 4 ^ 589, the radicand being from 2 ^ 104 to 2 ^ 106
unfoldable pub radicand : Parts → ℕ
radicand p = p.significand * 2 ^ (p.exponent % 2) * 2 ^ 52

unfoldable pub half : Parts → ℕ
half p = p.exponent / 2

-- rounded radicand * 2 ^ half / 2 ^ 589
unfoldable pub root_of : Parts → Float
unfolding radicand rounded half odd
root_of p = odd 53 false (rounded (radicand p)) (half p + 485) 1074

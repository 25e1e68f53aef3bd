-- The square root of a double, to the bit (document 01, Record 4, "Square root"): the nearest double, by whole-number squares.
use Rattle.std.specs.Prelude.{Float}
use Rattle.std.specs.Float.{nan}
use Rattle.float_bits.specs.declared.double.Kind.{Kind}
use Rattle.float_bits.specs.declared.double.Kind.TheVariants.{Positive, Zero, Negative, PlusInfinity, NotANumber}
use Rattle.float_bits.specs.double.Kind.{kind_of}
use Rattle.square_root.specs.parts.Radicand.{root_of}

-- +infinity, NaN and both zeros pass, and a negative's root is NaN
unfoldable pub sqrt_at : Kind → Float → Float
unfolding root_of
sqrt_at (Positive p) x = root_of p
sqrt_at Zero x = x
sqrt_at Negative x = nan
sqrt_at PlusInfinity x = x
sqrt_at NotANumber x = x

unfoldable pub sqrt_of : Float → Float
unfolding sqrt_at kind_of
sqrt_of x = sqrt_at (kind_of x) x

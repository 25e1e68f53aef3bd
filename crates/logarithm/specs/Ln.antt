-- The natural logarithm of a double, to the bit (document 01, Record 4, "Logarithm"): a sum in whole units, rounded once to a double.
use Rattle.std.specs.Prelude.{true, Float}
use Rattle.std.specs.Float.{nan, inf}
use Rattle.float_bits.specs.declared.double.Kind.{Kind}
use Rattle.float_bits.specs.declared.double.Kind.TheVariants.{Positive, Zero, Negative, PlusInfinity, NotANumber}
use Rattle.float_bits.specs.double.Kind.{kind_of}
use Rattle.logarithm.specs.fixed_point.Units.{Precision, chosen, ln_parts}

-- ln of a zero is -infinity, of a negative NaN, and +infinity and NaN pass
unfoldable pub ln_at : Precision → Kind → Float → Float
unfolding ln_parts
ln_at P (Positive p) x = ln_parts P p
ln_at P Zero x = inf true
ln_at P Negative x = nan
ln_at P PlusInfinity x = x
ln_at P NotANumber x = x

unfoldable pub ln_of : Float → Float
unfolding ln_at kind_of
ln_of x = ln_at chosen (kind_of x) x

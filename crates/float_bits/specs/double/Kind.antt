-- What kind of value a double is: the cases of the square root and of the logarithm (document 01, Record 4).
use Rattle.std.specs.Prelude.{zero, suc, true, false, Float}
use Rattle.std.specs.Float.{nan, inf, fin, binary64}
use Rattle.std.specs.Float.Ieee.{to_bits}
use Rattle.float_bits.specs.declared.double.Kind.{Kind}
use Rattle.float_bits.specs.declared.double.Kind.TheVariants.{Positive, Zero, Negative, PlusInfinity, NotANumber}
use Rattle.float_bits.specs.double.Parts.{parts_of}

unfoldable pub kind_of : Float → Kind
unfolding parts_of to_bits
kind_of nan = NotANumber
kind_of (inf false) = PlusInfinity
kind_of (inf true) = Negative
kind_of (fin s zero e) = Zero
kind_of (fin true (suc m) e) = Negative
kind_of (fin false (suc m) e) = Positive (parts_of (to_bits binary64 (fin false (suc m) e)))

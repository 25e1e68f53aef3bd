-- `float_bits::double::classify` meets its contract.
use mathlib.Core.Path.{sym, ◌∙◌, ap, subst}
use lib.Dec.{T}
use Rattle.float_bits.specs.declared.double.Kind.TheVariants.{Positive}
use Rattle.float_bits.proofs.double.Value.{digits_pos}
use Rattle.float_bits.proofs.double.Tests.{above, at_positive, at_infinity, at_negative, at_zero, at_nan}
use Rattle.float_bits.proofs.double.classify.Goals as goal

pub of_bits-requires : goal.of_bits-requires
of_bits-requires c = digits_pos _ (subst T (sym c.well_formed.0.1) tt) (above _ c.if-x.true c.if-x-2.true)

pub returns-then-x-2 : goal.returns-then-x-2
returns-then-x-2 c = ap Positive c.of_bits.ensures ∙ at_positive _ (above _ c.if-x.true c.if-x-2.true)

pub returns-then-x : goal.returns-then-x
returns-then-x c = at_infinity _ c.if-x.true c.if-x-2.false

pub returns-then-x-3 : goal.returns-then-x-3
returns-then-x-3 c = at_negative _ c.if-x-3.true

pub returns-then-x-4 : goal.returns-then-x-4
returns-then-x-4 c = at_zero _ c.if-x-4.true

pub returns : goal.returns
returns c = at_nan _ c.if-x.false c.if-x-3.false c.if-x-4.false

-- `square_root::sqrt` meets its contract.
use mathlib.Core.Path.{sym, ◌∙◌, subst}
use lib.Dec.{T}
use lib.Ieee.{div, of_bits}
use Rattle.float_bits.specs.declared.double.Kind.TheVariants.{Positive, Zero, Negative, PlusInfinity, NotANumber}
use Rattle.float_bits.proofs.double.Value.{in_place}
use Rattle.square_root.specs.Root.{sqrt_at}
use Rattle.square_root.proofs.Value.{at_kind}
use Rattle.square_root.proofs.sqrt.Goals as goal

pub of_parts-requires : goal.of_parts-requires
of_parts-requires c = in_place _ _ (subst T (sym c.well_formed.0.1) tt) (sym c.classify.ensures ∙ c.in-Positive.is)

pub returns-in-Positive : goal.returns-in-Positive
unfolding sqrt_at
returns-in-Positive c = c.of_parts.ensures ∙ at_kind _ (Positive _) c.classify.ensures c.in-Positive.is

pub returns-in-Zero : goal.returns-in-Zero
unfolding sqrt_at
returns-in-Zero c = at_kind _ Zero c.classify.ensures c.in-Zero.is

pub returns-in-Negative : goal.returns-in-Negative
unfolding sqrt_at div of_bits
returns-in-Negative c = at_kind _ Negative c.classify.ensures c.in-Negative.is

pub returns-in-PlusInfinity : goal.returns-in-PlusInfinity
unfolding sqrt_at
returns-in-PlusInfinity c = at_kind _ PlusInfinity c.classify.ensures c.in-PlusInfinity.is

pub returns-in-NotANumber : goal.returns-in-NotANumber
unfolding sqrt_at
returns-in-NotANumber c = at_kind _ NotANumber c.classify.ensures c.in-NotANumber.is

-- `square_root::parts::of_parts` meets its contract.
use native.Mathlib.Omega.{arith}
use Rattle.float_bits.proofs.double.Bits.{number_below}
use Rattle.square_root.proofs.parts.Value.{m_range, shifted, x_high, bits_are}
use Rattle.square_root.proofs.parts.of_parts.Goals as goal

pub invariant_of-x : goal.invariant_of-x
invariant_of-x c = let m = m_range _ c.requires in record { in_range = omega (arith, m) }

pub overflow_add-result-2 : goal.overflow_add-result-2
overflow_add-result-2 c = omega (arith, x_high _ c.requires _ _ (shifted _ c.requires) c.root_near-s.ensures)

pub float_from_bits-result : goal.float_from_bits-result
float_from_bits-result c = number_below _ (omega (arith, x_high _ c.requires _ _ (shifted _ c.requires) c.root_near-s.ensures))

pub returns : goal.returns
returns c = bits_are _ c.requires _ _ (shifted _ c.requires) c.root_near-s.ensures

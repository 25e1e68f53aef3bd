-- `float_bits::double::of_bits` meets its contract.
use Rattle.float_bits.proofs.double.Leading.{subnormal, normal}
use Rattle.float_bits.proofs.double.of_bits.Goals as goal

pub returns-then-f-eq0 : goal.returns-then-f-eq0
returns-then-f-eq0 c = subnormal _ _ c.if-f-eq0.true c.lifted.ensures

pub returns : goal.returns
returns c = normal _ c.if-f-eq0.false

-- `float_bits::double::lifted` meets its contract.
use Rattle.float_bits.proofs.double.Leading.{zeros_some, lifted_is}
use Rattle.float_bits.proofs.double.lifted.Goals as goal

pub overflow_sub-places : goal.overflow_sub-places
overflow_sub-places c = zeros_some c.args.q c.requires.0 c.requires.1

pub returns : goal.returns
returns c = lifted_is c.args.q c.requires.0 c.requires.1 _ c.from.ensures

-- `logarithm::division::in_units` meets its contract.
use Rattle.std.proofs.Common.{◌+◌, arith}
use Rattle.float_bits.proofs.double.Bits.{number_below}
use Rattle.logarithm.proofs.division.Floats.{in_floats}
use Rattle.logarithm.proofs.division.in_units.Goals as goal

pub float_from_bits-result : goal.float_from_bits-result
float_from_bits-result c = number_below (4706261610602168320 + c.args.h) (omega arith)

pub float_from_bits-result-2 : goal.float_from_bits-result-2
float_from_bits-result-2 c = number_below (4562146422526312448 + c.args.l) (omega arith)

pub returns : goal.returns
returns c = in_floats _ _ c.requires.0 c.requires.1

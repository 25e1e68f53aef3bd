-- `logarithm::division::guess` meets its contract: it is in range, and no float is NaN where its bits are asked.
use Rattle.std.proofs.Common.{◌+◌, arith}
use Rattle.float_bits.proofs.double.Bits.{number_below}
use Rattle.logarithm.proofs.division.guess.Goals as goal

pub float_from_bits-v : goal.float_from_bits-v
float_from_bits-v c = number_below (4602678819172646912 + c.args.m) (omega arith)

pub float_from_bits-w : goal.float_from_bits-w
float_from_bits-w c = number_below (4602678819172646912 + c.args.c) (omega arith)

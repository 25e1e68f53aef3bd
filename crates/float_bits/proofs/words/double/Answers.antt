-- `float_bits::words::double` meets its contract.
use Rattle.float_bits.proofs.double.Bits.{no_nan_bits}
use Rattle.float_bits.proofs.words.Laws.{nan_of_bits}
use Rattle.float_bits.proofs.words.double.Goals as goal

pub returns-then-word-gt-INFINITY : goal.returns-then-word-gt-INFINITY
returns-then-word-gt-INFINITY c = nan_of_bits _ c.if-word-gt-INFINITY.true

pub float_from_bits-result : goal.float_from_bits-result
float_from_bits-result c = no_nan_bits _ c.if-word-gt-INFINITY.false

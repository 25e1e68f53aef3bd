-- `float_bits::words::word_of` meets its contract.
use mathlib.Core.Path.{sym, ◌∙◌}
use Rattle.float_bits.proofs.words.Laws.{bits_of_nan}
use Rattle.float_bits.proofs.words.word_of.Goals as goal

pub returns-then-is_nan : goal.returns-then-is_nan
returns-then-is_nan c = bits_of_nan _ (sym c.is_nan.ensures.value ∙ c.if-is_nan.true)

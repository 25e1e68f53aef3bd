-- `sheet_reader::word_class::is_zero`: as defined.
use Rattle.std.proofs.Common.{refl}
use Rattle.sheet.specs.Field.{is_zero}
use Rattle.sheet_reader.proofs.word_class.is_zero.Goals as goal

pub returns : goal.returns
unfolding is_zero
returns c = refl

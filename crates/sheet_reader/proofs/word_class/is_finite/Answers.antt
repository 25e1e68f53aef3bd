-- `sheet_reader::word_class::is_finite`: as defined.
use Rattle.std.proofs.Common.{refl}
use Rattle.sheet.specs.Field.{is_finite}
use Rattle.sheet_reader.proofs.word_class.is_finite.Goals as goal

pub returns : goal.returns
unfolding is_finite
returns c = refl

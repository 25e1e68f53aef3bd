-- `sheet_reader::word_field::mark`: by the table's rule.
use Rattle.sheet.specs.Field.{digit_of}
use Rattle.sheet_reader.specs.word_field.Mark.{mark}
use Rattle.sheet_reader.proofs.field.Table.{right, marks}
use Rattle.sheet_reader.proofs.word_field.mark.Goals as goal

pub returns : goal.returns
unfolding right mark digit_of
returns c = search marks

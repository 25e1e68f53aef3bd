-- `sheet_reader::word_field::word`: the digits to come still end as the whole word does, unless an entry before was that of no digit.
use Rattle.sheet.specs.Line.{lf, word_to}
use Rattle.sheet_reader.proofs.field.Fields.{Word}
use Rattle.sheet_reader.proofs.word_field.word.Given as goal

abbrev pub invariant-loop-k : goal.invariant-loop-k
invariant-loop-k l = Word (word_to l.bytes l.at) l.bytes lf l.at l.k l.v l.sum

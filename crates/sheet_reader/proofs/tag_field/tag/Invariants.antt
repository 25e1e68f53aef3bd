-- `sheet_reader::tag_field::tag`: what is left of the tag still ends as the whole does.
use Rattle.sheet.specs.Line.{tag_to}
use Rattle.sheet_reader.proofs.field.Fields.{Tag}
use Rattle.sheet_reader.proofs.tag_field.tag.Given as goal

abbrev pub invariant-loop-k : goal.invariant-loop-k
invariant-loop-k l = Tag (tag_to l.t l.bytes l.at) l.bytes l.t l.k l.i

-- `sheet_reader::field::digits`: what is left of the number still ends as the whole does, the value held at the cap.
use Rattle.std.proofs.Common.{drop}
use Rattle.sheet.specs.Field.{digits_from}
use Rattle.sheet_reader.proofs.field.Fields.{Digits}
use Rattle.sheet_reader.proofs.field.digits.Given as goal

abbrev pub invariant-loop-i : goal.invariant-loop-i
invariant-loop-i l = Digits (digits_from l.end l.first l.from (drop l.from l.bytes)) l.bytes l.end l.v l.i

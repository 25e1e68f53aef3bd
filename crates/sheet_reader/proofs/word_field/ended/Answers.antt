-- `sheet_reader::word_field::ended`: there is a byte or none.
use Rattle.sheet_reader.proofs.field.Fields.{end_short, end_found, end_other}
use Rattle.sheet_reader.proofs.word_field.ended.Goals as goal

pub returns-then-bytes-at-eq-LF : goal.returns-then-bytes-at-eq-LF
returns-then-bytes-at-eq-LF c = search end_found

pub returns-else-bytes-at-eq-LF : goal.returns-else-bytes-at-eq-LF
returns-else-bytes-at-eq-LF c = search end_other

pub returns-else-at-bytes : goal.returns-else-at-bytes
returns-else-at-bytes c = search end_short

-- `sheet_reader::field::number`: there is a first byte or none.
use Rattle.sheet_reader.proofs.field.Fields.{number_short, number_more, number_other}
use Rattle.sheet_reader.proofs.field.number.Goals as goal

pub returns-then-bytes-at : goal.returns-then-bytes-at
returns-then-bytes-at c = search number_short

pub returns-then-d-lt10 : goal.returns-then-d-lt10
returns-then-d-lt10 c = search number_more

pub returns : goal.returns
returns c = search number_other

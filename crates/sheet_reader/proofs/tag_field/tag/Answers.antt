use Rattle.std.proofs.Common.{refl}
use Rattle.sheet_reader.proofs.field.Fields.{tag_short, tag_other, tag_more, tag_done}
use Rattle.sheet_reader.proofs.tag_field.tag.Goals as goal

pub loop-k-init : goal.loop-k-init
loop-k-init c = record { same = refl }

pub returns-then-bytes-i : goal.returns-then-bytes-i
returns-then-bytes-i c = search tag_short

pub returns-then-bytes-i-2 : goal.returns-then-bytes-i-2
returns-then-bytes-i-2 c = search tag_other

pub loop-k-preserved : goal.loop-k-preserved
loop-k-preserved c = search tag_more

pub returns : goal.returns
returns c = search tag_done

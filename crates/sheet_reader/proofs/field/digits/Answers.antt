use Rattle.std.proofs.Common.{refl, arith}
use Rattle.sheet_reader.proofs.field.Fields.{digits_leading, digits_more, digits_done, digits_other, digits_short}
use Rattle.sheet_reader.proofs.field.digits.Goals as goal

pub loop-i-init : goal.loop-i-init
loop-i-init c = record { same = refl; small = omega arith }

pub returns-then-v-eq0 : goal.returns-then-v-eq0
returns-then-v-eq0 c = search digits_leading

pub loop-i-preserved : goal.loop-i-preserved
loop-i-preserved c = search digits_more

pub returns-then-b-end : goal.returns-then-b-end
returns-then-b-end c = search digits_done

pub returns-else-d-lt10 : goal.returns-else-d-lt10
returns-else-d-lt10 c = search digits_other

pub returns : goal.returns
returns c = search digits_short

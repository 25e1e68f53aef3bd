use Rattle.std.proofs.Common.{arith}
use Rattle.sheet_reader.proofs.field.Fields.{word_begun, word_short, word_more, word_count, word_done}
use Rattle.sheet_reader.proofs.word_field.word.Goals as goal

pub returns-then-bytes-lt17 : goal.returns-then-bytes-lt17
returns-then-bytes-lt17 c = word_short _ _ 16 0 _ (omega arith)

pub returns-then-bytes-at : goal.returns-then-bytes-at
returns-then-bytes-at c = word_short _ _ 16 0 _ (omega arith)

pub loop-k-init : goal.loop-k-init
loop-k-init c = word_begun _ _ _

pub overflow_add-sum : goal.overflow_add-sum
overflow_add-sum c = record { fits = word_count c.loop-k.invariant _ (omega arith) c.mark-d.ensures }

pub loop-k-preserved : goal.loop-k-preserved
loop-k-preserved c = word_more c.loop-k.invariant (omega arith) (omega arith) c.mark-d.ensures c.wrapping_add_u64-v.ensures.value

pub returns-then-sum-ge255 : goal.returns-then-sum-ge255
returns-then-sum-ge255 c = c.loop-k.invariant.none (omega arith)

pub returns : goal.returns
returns c = search word_done

use Rattle.std.proofs.Common.{arith}
use Rattle.std.proofs.lemmas.Result.{err_from_is_err_and}
use Rattle.sheet_reader.proofs.line_verdict.Runs.{row_starts, row_room, row_refused, row_next, row_ends}
use Rattle.sheet_reader.proofs.line_groups.row_words.Goals as goal

pub loop-col-init : goal.loop-col-init
loop-col-init c = search row_starts

pub prescribed-requires : goal.prescribed-requires
prescribed-requires c = row_room c.loop-col.invariant (omega arith)

pub loop-col-preserved : goal.loop-col-preserved
loop-col-preserved c = row_next c.loop-col.invariant c.loop-col-test.true c.word_line-l.ensures c.in_ok-p.ensures

pub returns-in_err-p : goal.returns-in_err-p
returns-in_err-p c = let p = err_from_is_err_and c.from_residual.result c.from_residual.ensures.1 in rw (p.1, p.2) (row_refused c.loop-col.invariant c.loop-col-test.true c.word_line-l.ensures c.in_err-p.ensures)

pub returns : goal.returns
returns c = search row_ends

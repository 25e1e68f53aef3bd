use Rattle.std.proofs.Common.{arith}
use Rattle.std.proofs.lemmas.Result.{err_from_is_err_and}
use Rattle.sheet.proofs.Lines.{grid_length}
use Rattle.sheet_reader.proofs.line_verdict.Runs.{rows_start, rows_room, ones_next, ones_refused, rows_end, blocks_few}
use Rattle.sheet_reader.proofs.line_groups.blocks.Goals as goal

pub loop-i-init : goal.loop-i-init
loop-i-init c = rows_start (omega (arith, grid_length 1 0 c.args.k))

pub block-requires : goal.block-requires
block-requires c = omega (arith, rows_room c.loop-i.invariant (omega arith))

pub loop-i-preserved : goal.loop-i-preserved
loop-i-preserved c = ones_next c.loop-i.invariant c.loop-i-test.true c.block_line-l.ensures c.in_ok-p.ensures

pub returns-in_err-p-clause-past : goal.returns-in_err-p-clause-past
returns-in_err-p-clause-past c = let p = err_from_is_err_and c.from_residual.result c.from_residual.ensures.1 in rw (p.1, p.2) (ones_refused c.loop-i.invariant c.loop-i-test.true c.block_line-l.ensures c.in_err-p.ensures)

pub returns-clause-past : goal.returns-clause-past
returns-clause-past c = search rows_end

pub returns-clause-few : goal.returns-clause-few
returns-clause-few c = blocks_few _ _ _ _ (rows_end c.loop-i.invariant (omega arith))

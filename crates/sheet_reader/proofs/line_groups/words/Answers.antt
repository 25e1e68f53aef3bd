use Rattle.std.proofs.Common.{arith}
use Rattle.std.proofs.lemmas.Result.{err_from_is_err_and}
use Rattle.sheet_reader.proofs.line_verdict.Runs.{rows_most, rows_start, words_few, rows_refused, rows_next, rows_room, rows_end}
use Rattle.sheet_reader.proofs.line_groups.words.Goals as goal

pub loop-r-init : goal.loop-r-init
loop-r-init c = rows_start (omega (arith, rows_most c.args.first c.args.step 0 c.args.rows, c.requires.0, c.requires.1))

pub overflow_mul-step : goal.overflow_mul-step
overflow_mul-step c = record { fits = omega (arith, rows_room c.loop-r.invariant (omega arith)) }

pub overflow_add-first : goal.overflow_add-first
overflow_add-first c = record { fits = omega (arith, rows_room c.loop-r.invariant (omega arith)) }

pub row_words-requires : goal.row_words-requires
row_words-requires c = rows_room c.loop-r.invariant (omega arith)

pub loop-r-preserved : goal.loop-r-preserved
loop-r-preserved c = rows_next c.loop-r.invariant c.loop-r-test.true c.in_ok-p.ensures

pub returns-in_err-p-clause-past : goal.returns-in_err-p-clause-past
returns-in_err-p-clause-past c = let p = err_from_is_err_and c.from_residual.result c.from_residual.ensures.1 in rw (p.1, p.2) (rows_refused c.loop-r.invariant c.loop-r-test.true c.in_err-p.ensures)

pub returns-clause-past : goal.returns-clause-past
returns-clause-past c = search rows_end

pub returns-clause-few : goal.returns-clause-few
returns-clause-few c = words_few _ _ _ _ _ _ c.requires.0 (rows_end c.loop-r.invariant (omega arith))

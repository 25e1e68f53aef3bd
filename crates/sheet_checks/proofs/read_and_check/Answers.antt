-- `sheet_checks::read_and_check`: 1 to 4 as the reader says, else 5 to 9.
use Rattle.std.proofs.lemmas.Result.{err_from_is_err_and}
use Rattle.sheet.specs.Sheet.{sheet_of}
use Rattle.sheet_checks.proofs.Order.{reading_sheet, reading_refused, whole_read, whole_answer}
use Rattle.sheet_checks.proofs.read_and_check.Goals as goal

pub returns-in_err-starts : goal.returns-in_err-starts
returns-in_err-starts c = let p = err_from_is_err_and c.from_residual.result c.from_residual.ensures.1 in rw (p.1, p.2) (reading_refused (sheet_of c.args.bytes.now) c.in_err-starts.ensures)

pub check_sheet-requires : goal.check_sheet-requires
check_sheet-requires c = whole_read _ (reading_sheet _ c.in_ok-starts.ensures)

pub returns : goal.returns
returns c = whole_answer _ _ (reading_sheet _ c.in_ok-starts.ensures) c.check_sheet.ensures

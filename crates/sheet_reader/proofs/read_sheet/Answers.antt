-- `sheet_reader::read_sheet`: a sheet that is read ends with its yy line, or something stands behind.
use Rattle.std.proofs.lemmas.Result.{err_from_is_err_and}
use Rattle.sheet_reader.proofs.sheet_lines.Sequence.{ends_there, goes_on, stays_refused}
use Rattle.sheet_reader.proofs.read_sheet.Goals as goal

pub returns-in_err-starts : goal.returns-in_err-starts
returns-in_err-starts c = let p = err_from_is_err_and c.from_residual.result c.from_residual.ensures.1 in rw (p.1, p.2) (stays_refused _ _ c.in_err-starts.ensures)

pub returns-then-starts-bytes : goal.returns-then-starts-bytes
returns-then-starts-bytes c = ends_there _ _ c.in_ok-starts.ensures c.if-starts-bytes.true

pub returns : goal.returns
returns c = goes_on _ _ c.in_ok-starts.ensures c.if-starts-bytes.false

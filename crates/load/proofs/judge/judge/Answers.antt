-- `load::judge::judge`: the reader's refusal is handed on, or the sheet goes on.
use mathlib.Core.Path.{sym, ap, ◌∙◌}
use Rattle.std.specs.Prelude.{Err}
use Rattle.std.proofs.lemmas.Result.{err_from_is_err_and}
use Rattle.load.proofs.judge.Judging.{to_read, read_judged, unread_judged, unread_number, sheet_is, sheet_refused}
use Rattle.load.proofs.judge.judge.Goals as goal

pub refusal-requires : goal.refusal-requires
refusal-requires c = unread_number c.args.bytes.now _ _ (sym c.in-Err.ensures)

pub returns-in-Err : goal.returns-in-Err
returns-in-Err c = ap Err c.refusal.ensures ∙ unread_judged c.args.bytes.now _ _ (sym c.in-Err.ensures)

pub judge_sheet-requires : goal.judge_sheet-requires
judge_sheet-requires c = to_read c.args.bytes.now _ (sym c.in-Ok.ensures)

pub returns-in_err-layout : goal.returns-in_err-layout
returns-in_err-layout c =
    let p = err_from_is_err_and c.from_residual.result c.from_residual.ensures.1 in
    p.1 ∙ ap Err p.2 ∙ read_judged c.args.bytes.now _ _ (sym c.in-Ok.ensures) (λ sheet e. sheet_refused sheet _ (c.in_err-layout.ensures sheet e))

pub returns : goal.returns
returns c = read_judged c.args.bytes.now _ _ (sym c.in-Ok.ensures) (λ sheet e. sheet_is sheet _ (c.in_ok-layout.ensures sheet e))

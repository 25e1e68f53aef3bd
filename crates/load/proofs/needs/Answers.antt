-- `load::needs`: what 1 to 11 refuse is handed on, or the room of the layout.
use mathlib.Core.Path.{sym, ap, ◌∙◌}
use Rattle.std.specs.Prelude.{Err}
use Rattle.std.proofs.lemmas.Result.{err_from_is_err_and}
use Rattle.load_numbers.proofs.sheet_words.Loads.{ready_valid}
use Rattle.load.specs.room.Needs.{needs_meaning}
use Rattle.load.proofs.judge.Judging.{judged_ready}
use Rattle.load.proofs.room.NeedsExactly.{needs_room, needs_refused}
use Rattle.load.proofs.needs.Goals as goal

pub returns-in_err-passed : goal.returns-in_err-passed
returns-in_err-passed c =
    let p = err_from_is_err_and c.from_residual.result c.from_residual.ensures.1 in
    ap needs_meaning (p.1 ∙ ap Err p.2 ∙ needs_refused c.args.bytes.now c.in_err-passed.ensures)

pub room_of-requires : goal.room_of-requires
room_of-requires c = ready_valid c.args.bytes.now _ _ (judged_ready c.args.bytes.now _ _ (sym c.in_ok-passed.ensures))

pub returns : goal.returns
returns c = ap needs_meaning (needs_room c.args.bytes.now c.in_ok-passed.ensures c.room_of.ensures)

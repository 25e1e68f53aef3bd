-- `factor_text::factor`: too little room, too long, or as the sheet's reader answered.
use mathlib.Core.Path.{sym}
use Rattle.factor_text.proofs.refusal_text.Texts.{told, long_out, read_out, unread_out}
use Rattle.factor_text.proofs.Room.{chunk_length, enough}
use Rattle.factor_text.proofs.factor.Goals as goal

pub returns-then-input-gt32768 : goal.returns-then-input-gt32768
returns-then-input-gt32768 c = let f = c.in-Some.ensures.cases in
    enough f _ _ _ (long_out (c.args.input).now _ _ _ (chunk_length f) c.if-input-gt32768.true (told _ _ _ c.numbers.ensures c.put_refusal.ensures))

pub returns-in-Ok : goal.returns-in-Ok
returns-in-Ok c = let f = c.in-Some.ensures.cases in
    enough f _ _ _ (read_out (c.args.input).now _ _ _ (chunk_length f) c.if-input-gt32768.false c.put_sheet.ensures)

pub returns-in-Err : goal.returns-in-Err
returns-in-Err c = let f = c.in-Some.ensures.cases in
    enough f _ _ _ (unread_out (c.args.input).now _ _ _ (chunk_length f) c.if-input-gt32768.false _ _ (sym c.in-Err.ensures) (told _ _ _ c.new.ensures c.put_refusal-in-Err.ensures))

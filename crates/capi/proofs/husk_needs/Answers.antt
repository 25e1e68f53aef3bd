-- `capi::husk_needs`: the boundary's test, then the call.
use mathlib.Core.Path.{refl, ap, ◌∙◌}
use borrow.Author.Tests.{lt-ltb, le-ltb}
use Rattle.load.specs.room.Needs.{NeedsMeaning}
use Rattle.capi.specs.Told.{told_needs}
use Rattle.capi.proofs.husk_needs.Goals as goal

pub returns-then-answer-lt4 : goal.returns-then-answer-lt4
returns-then-answer-lt4 c = rw (lt-ltb _ _ c.if-answer-lt4.true) refl

pub returns : goal.returns
returns c = let l = c.args.answer.now in
    rw (le-ltb _ _ c.if-answer-lt4.false) (c.tell_needs.ensures ∙ ap (λ (m : NeedsMeaning). told_needs m l) c.needs.ensures)

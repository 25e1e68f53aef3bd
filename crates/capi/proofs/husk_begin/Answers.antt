-- `capi::husk_begin`: the boundary's test, then the call.
use mathlib.Core.Path.{refl}
use borrow.Author.Tests.{lt-ltb, le-ltb}
use Rattle.refusal.specs.Numbers.{Meaning}
use Rattle.capi.specs.Told.{told_answer}
use Rattle.capi.proofs.Laws.{call_told}
use Rattle.capi.proofs.husk_begin.Goals as goal

pub returns-then-answer-lt2 : goal.returns-then-answer-lt2
returns-then-answer-lt2 c = rw (lt-ltb _ _ c.if-answer-lt2.true) refl

pub returns : goal.returns
returns c = let l = c.args.answer.now in
    rw (le-ltb _ _ c.if-answer-lt2.false) (call_told (λ (m : Meaning). told_answer m l) c.begin.ensures.0 c.tell_answer.ensures c.begin.ensures.1)

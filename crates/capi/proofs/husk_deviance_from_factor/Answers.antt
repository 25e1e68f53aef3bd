-- `capi::husk_deviance_from_factor`: the boundary's tests, then the call.
use mathlib.Core.Path.{refl, ap, ◌∙◌}
use borrow.Author.Tests.{lt-ltb, le-ltb}
use Rattle.profile.specs.Deviance.{DevianceMeaning}
use Rattle.capi.specs.Told.{told_deviance}
use Rattle.capi.proofs.husk_deviance_from_factor.Goals as goal

pub returns-then-answer-lt5 : goal.returns-then-answer-lt5
returns-then-answer-lt5 c = rw (lt-ltb _ _ c.if-answer-lt5.true) refl

pub returns-then-mode-gt1 : goal.returns-then-mode-gt1
returns-then-mode-gt1 c = rw (le-ltb _ _ c.if-answer-lt5.false, lt-ltb _ _ c.if-mode-gt1.true) refl

pub returns : goal.returns
returns c = let l = c.args.answer.now in
    rw (le-ltb _ _ c.if-answer-lt5.false, le-ltb _ _ c.if-mode-gt1.false)
    (c.tell_deviance.ensures ∙ ap (λ (m : DevianceMeaning). told_deviance m l) c.deviance_from_factor.ensures)

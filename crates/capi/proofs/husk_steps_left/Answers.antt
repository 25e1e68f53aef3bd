-- `capi::husk_steps_left`: the boundary's test, then the call.
use mathlib.Core.Path.{refl, ap, ◌∙◌}
use borrow.Author.Tests.{lt-ltb, le-ltb}
use Rattle.views.specs.Views.{StepsMeaning}
use Rattle.capi.specs.Told.{told_steps}
use Rattle.capi.proofs.husk_steps_left.Goals as goal

pub returns-then-answer-lt3 : goal.returns-then-answer-lt3
returns-then-answer-lt3 c = rw (lt-ltb _ _ c.if-answer-lt3.true) refl

pub returns : goal.returns
returns c = let l = c.args.answer.now in
    rw (le-ltb _ _ c.if-answer-lt3.false) (c.tell_steps.ensures ∙ ap (λ (m : StepsMeaning). told_steps m l) c.steps_left.ensures)

-- `capi::husk_step`: the boundary's tests, then the call.
use mathlib.Core.Path.{refl, ap, ◌∙◌}
use borrow.Author.Tests.{lt-ltb, le-ltb}
use Rattle.step_order.specs.Steps.{Step}
use Rattle.refusal.specs.Numbers.{Meaning, meaning}
use Rattle.workspace.specs.Answers.{Outcome}
use Rattle.update.specs.Calls.{step_of}
use Rattle.capi.specs.Told.{told_answer}
use Rattle.capi.proofs.Laws.{call_told}
use Rattle.capi.proofs.husk_step.Goals as goal

pub returns-then-answer-lt2 : goal.returns-then-answer-lt2
returns-then-answer-lt2 c = rw (lt-ltb _ _ c.if-answer-lt2.true) refl

pub returns-then-kind-gt2 : goal.returns-then-kind-gt2
returns-then-kind-gt2 c = rw (le-ltb _ _ c.if-answer-lt2.false, lt-ltb _ _ c.if-kind-gt2.true) refl

pub returns : goal.returns
returns c = let a = c.args in
    let called : Step → Outcome = λ s. step_of a.heading.now a.doubles.now s in
    let answered = c.step.ensures.0 ∙ ap (λ (s : Step). meaning (called s).answer) c.name.ensures in
    let left = c.step.ensures.1 ∙ ap (λ (s : Step). (called s).left) c.name.ensures in
    rw (le-ltb _ _ c.if-answer-lt2.false, le-ltb _ _ c.if-kind-gt2.false)
    (call_told (λ (m : Meaning). told_answer m a.answer.now) answered c.tell_answer.ensures left)

-- `capi::husk_log_determinant`: the boundary's test, then the call.
use mathlib.Core.Path.{refl, ap, ◌∙◌}
use borrow.Author.Tests.{lt-ltb, le-ltb}
use Rattle.views.specs.Views.{ViewMeaning}
use Rattle.capi.specs.Told.{told_view}
use Rattle.capi.proofs.husk_log_determinant.Goals as goal

pub returns-then-answer-lt4 : goal.returns-then-answer-lt4
returns-then-answer-lt4 c = rw (lt-ltb _ _ c.if-answer-lt4.true) refl

pub returns : goal.returns
returns c = let l = c.args.answer.now in
    rw (le-ltb _ _ c.if-answer-lt4.false) (c.tell_value.ensures ∙ ap (λ (m : ViewMeaning). told_view m l) c.log_determinant.ensures)

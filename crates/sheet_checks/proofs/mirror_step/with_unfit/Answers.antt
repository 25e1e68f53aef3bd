-- `sheet_checks::mirror_step::with_unfit`: by what `is_unfit` says.
use mathlib.Core.Path.{sym, ◌∙◌}
use Rattle.sheet_checks.proofs.mirror_step.with_unfit.Goals as goal

pub returns-then-is_unfit : goal.returns-then-is_unfit
returns-then-is_unfit c = λ sheet line e k h g. rw (sym (c.is_unfit.ensures sheet line e k h g) ∙ c.if-is_unfit.true) c.earlier.ensures

pub returns : goal.returns
returns c = λ sheet line e k h g. rw (sym (c.is_unfit.ensures sheet line e k h g) ∙ c.if-is_unfit.false)

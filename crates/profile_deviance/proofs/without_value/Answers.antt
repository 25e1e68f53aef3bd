-- `profile_deviance::without_value`: that of a value is shut out.
use mathlib.Core.Path.{sym, ap, ◌∙◌}
use mathlib.Core.Bool.{true≢false}
use Rattle.profile_deviance.specs.full_update.Updating.{is_value}
use Rattle.profile_deviance.proofs.full_update.Ends.{without_pivot}
use Rattle.profile_deviance.proofs.without_value.Goals as goal

pub returns-in-Value : goal.returns-in-Value
returns-in-Value c = absurd (true≢false (sym (ap is_value c.in-Value.is) ∙ c.requires))

pub returns-in-Pivot : goal.returns-in-Pivot
returns-in-Pivot c = without_pivot _ _ _ c.in-Pivot.is

-- `sheet_checks::levels::has_slope`: the blocks of the held sheet are those of its lines.
use mathlib.Core.Path.{sym, ap, ◌∙◌}
use Rattle.sheet.specs.Fault.{any_of}
use Rattle.sheet_checks.proofs.levels.Reading.{slope, held_blocks}
use Rattle.sheet_checks.proofs.levels.has_slope.Goals as goal

pub returns : goal.returns
returns c = λ sheet e. c.slope_at.ensures ∙ ap (any_of slope) (sym (held_blocks _ _ sheet e))

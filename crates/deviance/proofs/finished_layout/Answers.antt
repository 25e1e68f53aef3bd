-- `deviance::finished_layout`: 20, 25, or the layout.
use mathlib.Core.Path.{sym, ◌∙◌}
use Rattle.heading_format.proofs.Fits.{fits}
use Rattle.deviance.proofs.finished_layout.Goals as goal

pub progress-progress-requires : goal.progress-progress-requires
progress-progress-requires c = (fits c.args.heading.now c.args.doubles (sym c.is_valid_heading.ensures ∙ c.if-not-is_valid_heading.false)).long

pub layout-requires : goal.layout-requires
layout-requires c = (fits c.args.heading.now c.args.doubles (sym c.is_valid_heading.ensures ∙ c.if-not-is_valid_heading.false)).long

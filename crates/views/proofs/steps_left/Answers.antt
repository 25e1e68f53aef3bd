-- `views::steps_left`: 20 by the heading, or the number.
use mathlib.Core.Path.{sym, ap, ◌∙◌}
use Rattle.views.specs.Views.{steps_meaning}
use Rattle.heading_format.proofs.Fits.{fits}
use Rattle.views.proofs.Looks.{no_heading, steps}
use Rattle.views.proofs.steps_left.Goals as goal

pub progress-progress-requires : goal.progress-progress-requires
progress-progress-requires c = (fits c.args.heading.now 2199023255552 (sym c.is_valid_heading.ensures ∙ c.if-not-is_valid_heading.false)).long

pub returns-then-not-is_valid_heading : goal.returns-then-not-is_valid_heading
returns-then-not-is_valid_heading c = ap steps_meaning (no_heading c.args.heading.now _ c.is_valid_heading.ensures c.if-not-is_valid_heading.true)

pub returns : goal.returns
returns c = ap steps_meaning (steps c.args.heading.now _ c.is_valid_heading.ensures c.if-not-is_valid_heading.false _ c.progress-progress.ensures)

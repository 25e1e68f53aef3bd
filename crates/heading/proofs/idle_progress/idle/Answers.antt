-- `heading::idle_progress::idle`: every step is left.
use mathlib.Core.Path.{ap, ◌∙◌}
use Rattle.heading_format.specs.declared.State.TheVariants.{Idle}
use Rattle.heading_format.specs.Heading.{undone}
use Rattle.heading.proofs.idle_progress.idle.Goals as goal

pub returns : goal.returns
returns c = c.undone.ensures ∙ ap (undone Idle) c.step_count.ensures

-- `begin::write_begin::under_way`: every step is left.
use mathlib.Core.Path.{ap, ◌∙◌}
use Rattle.heading_format.specs.declared.State.TheVariants.{UnderWay}
use Rattle.heading_format.specs.Heading.{undone}
use Rattle.begin.proofs.write_begin.under_way.Goals as goal

pub returns : goal.returns
returns c = c.undone.ensures ∙ ap (undone UnderWay) c.step_count.ensures

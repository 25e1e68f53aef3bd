-- `begin::write`: the doubles, then the progress.
use mathlib.Core.Path.{sym, ap, subst, ◌∙◌}
use Rattle.block_places.proofs.block_sizes.Sizes.{few_blocks}
use Rattle.heading.specs.writer.Small.{SmallProgress}
use Rattle.workspace.specs.Memory.{heading_with}
use Rattle.begin.proofs.Outcome.{under_way_small}
use Rattle.begin.proofs.write.Goals as goal

pub under_way-requires : goal.under_way-requires
under_way-requires c = few_blocks c.args.layout c.requires.1.valid

pub write_progress-requires : goal.write_progress-requires
write_progress-requires c = (c.requires.0, subst SmallProgress (sym c.under_way.ensures) (under_way_small c.args.layout.k (few_blocks c.args.layout c.requires.1.valid)))

pub returns : goal.returns
returns c = (c.write_progress.ensures ∙ ap (heading_with c.args.heading.now) c.under_way.ensures, c.write_doubles.ensures)

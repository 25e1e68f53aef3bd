-- `replace_response::write`: the rows, then the progress.
use mathlib.Core.Path.{sym, ap, subst, ◌∙◌}
use Rattle.heading_format.proofs.Valid.{is_valid}
use Rattle.heading.specs.writer.Small.{SmallProgress}
use Rattle.workspace.specs.Memory.{heading_with}
use Rattle.heading.proofs.writer.Idle.{idle_small}
use Rattle.replace_response.proofs.write.Goals as goal

pub idle-requires : goal.idle-requires
idle-requires c = (is_valid c.args.layout c.requires.1).blocks.1

pub write_progress-requires : goal.write_progress-requires
write_progress-requires c = (c.requires.0, subst SmallProgress (sym c.idle.ensures) (idle_small c.args.layout.k (is_valid c.args.layout c.requires.1).blocks.1))

pub returns : goal.returns
returns c = (c.write_progress.ensures ∙ ap (heading_with c.args.heading.now) c.idle.ensures, c.write_response.ensures)

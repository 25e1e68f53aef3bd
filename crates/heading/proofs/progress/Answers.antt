-- `heading::progress`: number by number, as defined.
use Rattle.heading.proofs.Numbers.{progress_read}
use Rattle.heading.proofs.progress.Goals as goal

pub returns : goal.returns
returns c = progress_read c.args.heading.now c.number.ensures c.state-state.ensures c.stages-stages.ensures c.number-2.ensures

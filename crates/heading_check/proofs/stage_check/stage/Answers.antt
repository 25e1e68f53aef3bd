-- `heading_check::stage_check::stage`: the number where the stage lies.
use Rattle.heading_check.proofs.stage_check.Stages.{stage_at}
use Rattle.heading_check.proofs.stage_check.stage.Goals as goal

pub returns : goal.returns
returns c = stage_at _ _ _ c.targets_before.ensures.0 c.targets_before.ensures.1 c.requires.1 c.requires.2 c.from.ensures

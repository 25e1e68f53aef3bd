-- `step::step_check::stage`: the number at the place of the target.
use Rattle.step.proofs.step_check.stage.Goals as goal

pub returns : goal.returns
returns c = cc

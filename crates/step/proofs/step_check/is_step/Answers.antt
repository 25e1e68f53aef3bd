-- `step::step_check::is_step`: the tests of the name, in turn.
use Rattle.step.proofs.step_check.is_step.Goals as goal

pub returns-in-S : goal.returns-in-S
returns-in-S c = cc

pub returns-in-C : goal.returns-in-C
returns-in-C c = cc

pub returns-in-T : goal.returns-in-T
returns-in-T c = cc

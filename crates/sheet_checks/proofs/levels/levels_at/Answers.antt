use Rattle.sheet_checks.proofs.levels.Reading.{levels_start, levels_more, levels_done}
use Rattle.sheet_checks.proofs.levels.levels_at.Goals as goal

pub loop-i-init : goal.loop-i-init
loop-i-init c = search levels_start

pub loop-i-preserved : goal.loop-i-preserved
loop-i-preserved c = search levels_more

pub returns : goal.returns
returns c = search levels_done

-- `deviance::deviance_tail::log_determinant`: the last double, doubled.
use Rattle.deviance.proofs.deviance_tail.Tails.{sum_read}
use Rattle.deviance.proofs.deviance_tail.log_determinant.Goals as goal

pub returns : goal.returns
returns c = sum_read c.args.layout c.args.doubles.now c.requires.room _ c.sum_at.ensures

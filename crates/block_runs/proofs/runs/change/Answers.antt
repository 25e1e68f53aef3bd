-- `block_runs::runs::change`: the block is lent.
use Rattle.block_runs.proofs.runs.Lent.{lent_run}
use Rattle.block_runs.proofs.runs.change.Goals as goal

pub returns : goal.returns
returns g c = let a = c.args in
    λ h same. lent_run a.doubles.now _ a.off a.to a.n h c.requires.room.0 c.requires.room.1 (c.change_part.ensures h same)

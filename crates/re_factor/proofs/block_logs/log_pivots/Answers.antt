-- `re_factor::block_logs::log_pivots`: the lent part is the block.
use Rattle.storage.specs.Placed.{as_triangle}
use Rattle.re_factor.proofs.Lends.{lent_logs}
use Rattle.re_factor.proofs.block_logs.log_pivots.Goals as goal

pub returns : goal.returns
returns c = let a = c.args in
    lent_logs (as_triangle a.b) a.doubles.now _ a.b.rows a.s _ c.row_start.ensures c.log_pivots.ensures

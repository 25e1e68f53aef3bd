-- `re_factor::block_logs::log_diagonal`: the lent part is the block.
use mathlib.Core.Path.{sym}
use Rattle.storage.specs.Placed.{as_diagonal}
use Rattle.storage.proofs.Starts.{start_single}
use Rattle.re_factor.proofs.Lends.{lent_logs}
use Rattle.re_factor.proofs.block_logs.log_diagonal.Goals as goal

pub returns : goal.returns
returns c = let a = c.args in
    lent_logs (as_diagonal a.b) a.doubles.now _ a.b.rows a.s _ (sym (start_single a.b.rows)) c.log_diagonal.ensures

-- `re_factor::block_logs::logs_later`: the callee's sum, added.
use mathlib.Core.Path.{ap}
use lib.Ieee.{add, binary64}
use Rattle.re_factor.proofs.block_logs.logs_later.Goals as goal

pub returns : goal.returns
returns c = ap (add binary64 c.args.s) c.log_pivots.ensures

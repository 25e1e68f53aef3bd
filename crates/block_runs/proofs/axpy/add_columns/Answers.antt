-- `block_runs::axpy::add_columns`: signed factors, then one call.
use Rattle.block_runs.proofs.axpy.Sums.{columns_added}
use Rattle.block_runs.proofs.axpy.add_columns.Goals as goal

pub returns : goal.returns
returns g c = let a = c.args in columns_added a.subtract a.acc.now _ a.n _ _ _ g.row.N c.add.ensures c.factors-f.ensures

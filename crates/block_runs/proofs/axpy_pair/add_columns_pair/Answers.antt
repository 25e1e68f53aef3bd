-- `block_runs::axpy_pair::add_columns_pair`: the factors of either list, then one call.
use mathlib.Core.Bool.{false}
use Rattle.block_runs.proofs.axpy.Sums.{columns_added}
use Rattle.block_runs.proofs.axpy_pair.add_columns_pair.Goals as goal

pub returns : goal.returns
returns g c = let a = c.args in
    let s = c.add_pair.ensures in record {
      acc_after = columns_added false a.acc.now _ a.n _ _ _ g.row.N s.acc_after c.factors-f.ensures;
      acc2_after = columns_added false a.acc2.now _ a.n _ _ _ g.row.N s.acc2_after c.factors-g.ensures;
    }

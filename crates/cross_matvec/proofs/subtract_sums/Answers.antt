-- `cross_matvec::subtract_sums`: the sums, then the entries.
use native.Mathlib.Omega.{arith}
use Rattle.storage.proofs.Starts.{start_dense}
use Rattle.cross_matvec.proofs.Dense.{sums_subtracted}
use Rattle.cross_matvec.proofs.subtract_sums.Goals as goal

pub add_products-requires : goal.add_products-requires
add_products-requires c = omega (arith, start_dense 1 c.args.a.cols)

pub returns : goal.returns
returns c = sums_subtracted _ _ _ _ _ _ _ _ _ c.requires.0 c.requires.1
    c.clear.ensures c.add_products.ensures c.subtract.ensures

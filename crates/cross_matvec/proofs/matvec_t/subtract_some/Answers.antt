-- `cross_matvec::matvec_t::subtract_some`: the columns that are left have room for one, or for four.
use native.Mathlib.Omega.{arith}
use lib.ListN.{length}
use Rattle.block_runs.proofs.axpy.Sums.{some_fit}
use Rattle.cross_matvec.specs.Products.{held}
use Rattle.cross_matvec.proofs.matvec_t.subtract_some.Goals as goal

pub subtract-requires : goal.subtract-requires
subtract-requires c = let a = c.args in
    omega (arith, some_fit a.a.at a.a.rows 1 a.a.cols (length (held a.doubles a.v.now)) (omega arith) (omega arith))

pub subtract-requires-2 : goal.subtract-requires-2
subtract-requires-2 c = let a = c.args in
    omega (arith, some_fit a.a.at a.a.rows 4 a.a.cols (length (held a.doubles a.v.now)) (omega arith) (omega arith))

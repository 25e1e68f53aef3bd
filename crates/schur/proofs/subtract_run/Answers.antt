-- `schur::subtract_run`: the sums, then the run.
use native.Mathlib.Omega.{arith}
use Rattle.schur.proofs.Turns.{sums_subtracted, lies_as}
use Rattle.schur.proofs.subtract_run.Goals as goal

pub add_products-requires : goal.add_products-requires
add_products-requires c = omega (arith, lies_as _ _ c.args.b c.requires.3 c.requires.7)

pub returns : goal.returns
returns c = let a = c.args in
    sums_subtracted a.doubles.now _ a.acc.now _ _ a.to a.n a.a a.b a.r c.requires.1 c.requires.3 c.clear.ensures c.add_products.ensures c.subtract.ensures

-- `schur::few_rows::sum_row`: cleared, then the products, then put.
use native.Mathlib.Omega.{arith}
use Rattle.schur.proofs.Turns.{lies_as}
use Rattle.schur.proofs.few_rows.Laws.{row_put}
use Rattle.schur.proofs.few_rows.sum_row.Goals as goal

pub add_products-requires : goal.add_products-requires
add_products-requires c = omega (arith, lies_as _ _ c.args.b c.requires.3 c.requires.5)

pub returns : goal.returns
returns c = let a = c.args in
    row_put a.doubles.now a.t.now _ a.acc.now _ _ a.from a.a a.b a.r c.requires.1 c.requires.3 c.clear.ensures c.add_products.ensures c.copy.ensures

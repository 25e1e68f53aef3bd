-- `schur::few_rows::sum_two_rows`: both cleared, then the products, then both put.
use native.Mathlib.Omega.{arith}
use mathlib.Core.Path.{ap, ◌∙◌}
use Prim.Native.Nat.{◌+◌}
use Rattle.block_runs.specs.axpy.Axpy.{run}
use Rattle.schur.specs.few_rows.Few.{row_sums}
use Rattle.schur.proofs.Turns.{lies_as}
use Rattle.schur.proofs.few_rows.Laws.{row_put}
use Rattle.schur.proofs.few_rows.sum_two_rows.Goals as goal

pub add_products_pair-requires : goal.add_products_pair-requires
add_products_pair-requires c = omega (arith, lies_as _ _ c.args.b c.requires.4 c.requires.6)

pub returns : goal.returns
returns c = let a = c.args in
    let sums = c.add_products_pair.ensures in
    row_put a.doubles.now _ _ a.acc2.now _ _ (a.from + a.b.rows) a.a a.b (a.r + 1) c.requires.2 c.requires.4 c.clear-2.ensures sums.acc2_after c.copy-2.ensures
    ∙ ap (run (a.from + a.b.rows) a.b.rows (row_sums a.a a.b a.doubles.now (a.r + 1)))
    (row_put a.doubles.now a.t.now _ a.acc.now _ _ a.from a.a a.b a.r c.requires.1 c.requires.4 c.clear.ensures sums.acc_after c.copy.ensures)

-- `schur::schur_dense::subtract_pair`: the sums of both runs, then the runs.
use Prim.Native.Nat.{◌+◌}
use native.Mathlib.Omega.{arith}
use Rattle.schur.proofs.Turns.{sums_subtracted, lies_as}
use Rattle.schur.proofs.schur_dense.Laws.{second_subtracted}
use Rattle.schur.proofs.schur_dense.subtract_pair.Goals as goal

pub add_products_pair-requires : goal.add_products_pair-requires
add_products_pair-requires c = let P = c.requires.0 in omega (arith, lies_as _ _ c.args.b P.inner P.right)

pub returns : goal.returns
returns c = let a = c.args in let P = c.requires.0 in
    let sums = c.add_products_pair.ensures in
    second_subtracted a.doubles.now _ _ a.acc2.now _ _ a.t a.a a.b a.to (a.to + a.t.rows) a.t.rows a.c (a.c + 1) P c.requires.2 (omega arith) c.clear-2.ensures sums.acc2_after
    (sums_subtracted a.doubles.now _ a.acc.now _ _ a.to a.t.rows a.a a.b a.c c.requires.1 P.inner c.clear.ensures sums.acc_after c.subtract.ensures)
    c.subtract-2.ensures

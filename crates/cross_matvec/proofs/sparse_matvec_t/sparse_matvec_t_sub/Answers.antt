use mathlib.Core.Path.{refl}
use Prim.Native.Nat.{◌<◌}
use native.Mathlib.Omega.{arith}
use Rattle.storage.proofs.Filling.{filling_none, filling_done}
use Rattle.storage.proofs.Starts.{start_single}
use Rattle.cross_matvec.specs.Products.{row_in}
use Rattle.cross_matvec.proofs.Vectors.{sparse_subtracted}
use Rattle.cross_matvec.proofs.sparse_matvec_t.sparse_matvec_t_sub.Goals as goal

pub loop-c-init : goal.loop-c-init
loop-c-init c = filling_none _ _ _ _ c.requires.0.cols

pub value-y-requires : goal.value-y-requires
value-y-requires c = let below : row_in c.args.rows.now c.loop-c.c < c.args.a.rows = c.requires.2.1 c.loop-c.c c.loop-c-test.true in
    omega (arith, below)

pub bounds-doubles-a : goal.bounds-doubles-a
bounds-doubles-a c = omega (arith, start_single c.args.a.cols)

pub loop-c-preserved : goal.loop-c-preserved
loop-c-preserved c = let below : row_in c.args.rows.now c.loop-c.c < c.args.a.rows = c.requires.2.1 c.loop-c.c c.loop-c-test.true in
    let k = row_in c.args.rows.now c.loop-c.c in
    rw c.value-y.ensures
    (sparse_subtracted _ _ _ _ _ _ c.requires.0 (omega (arith, start_single c.args.a.cols)) c.loop-c.invariant c.loop-c-test.true k below refl)

pub returns : goal.returns
returns c = filling_done c.loop-c.invariant (omega arith)

use mathlib.Core.Path.{◌≡◌, refl}
use Prim.Native.Nat.{◌<◌}
use native.Mathlib.Omega.{arith}
use native.Mathlib.Numerals.{add-one}
use Rattle.storage.proofs.Starts.{start_single}
use Rattle.cross_matvec.specs.Products.{row_in}
use Rattle.cross_matvec.proofs.Skips.{skip_none, skip_more}
use Rattle.cross_matvec.proofs.sparse_matvec.sparse_matvec_sub.Goals as goal

pub loop-c-init : goal.loop-c-init
loop-c-init c = (omega arith, refl, skip_none _ _ _ _ _ _ c.requires.0)

pub bounds-doubles-a : goal.bounds-doubles-a
bounds-doubles-a c = omega (arith, start_single c.args.a.cols)

pub overflow_add-to : goal.overflow_add-to
overflow_add-to c = let below : row_in c.args.rows.now c.loop-c.c < c.args.a.rows = c.requires.2.1 c.loop-c.c c.loop-c-test.true in
    omega (arith, below)

pub subtract_entry-requires : goal.subtract_entry-requires
subtract_entry-requires c = let below : row_in c.args.rows.now c.loop-c.c < c.args.a.rows = c.requires.2.1 c.loop-c.c c.loop-c-test.true in
    omega (arith, below)

pub loop-c-preserved : goal.loop-c-preserved
loop-c-preserved c = let below : row_in c.args.rows.now c.loop-c.c < c.args.a.rows = c.requires.2.1 c.loop-c.c c.loop-c-test.true in
    let l = c.loop-c in let k = row_in c.args.rows.now c.loop-c.c in
    let t = skip_more _ _ _ _ _ _ c.requires.0 l.c c.loop-c-test.true l.v l.invariant.2 k below refl
    (omega (arith, start_single c.args.a.cols)) _ c.subtract_entry.ensures in
    (omega arith, omega arith, rw add-one t)

pub returns : goal.returns
returns c = let l = c.loop-c in let e : l.c ≡ c.args.a.cols = omega arith in rw e at l.invariant.2

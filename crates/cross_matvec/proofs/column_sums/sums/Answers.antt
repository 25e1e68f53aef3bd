use mathlib.Core.Path.{◌≡◌, ap, ◌∙◌}
use Prim.Native.Nat.{◌+◌, ◌*◌}
use mathlib.Core.List.{List}
use native.Mathlib.Omega.{arith}
use lib.ListN.{length, length-replicate, get_or-replicate}
use lib.Ieee.{Float, nan, of_bits}
use Rattle.storage.specs.Runs.{start, dense}
use Rattle.storage.proofs.Starts.{start_dense}
use Rattle.storage.proofs.Filling.{filling_none, filling_next, filling_done}
use Rattle.rules.specs.Arithmetic.{ieee}
use Rattle.block_runs.specs.axpy.Axpy.{at, along}
use Rattle.block_runs.proofs.axpy.Sums.{column_room, read_run}
use Rattle.cross_matvec.proofs.Dense.{sum_more}
use Rattle.cross_matvec.proofs.column_sums.sums.Goals as goal

pub loop-r-init : goal.loop-r-init
unfolding along of_bits
loop-r-init g c = (length-replicate g.row.N ieee.zero, λ j l. get_or-replicate g.row.N j ieee.zero nan l)

pub loop-j-init : goal.loop-j-init
loop-j-init g c = filling_none _ 0 g.row.N c.loop-r.sums (omega arith)

pub offset_bounds-doubles-p : goal.offset_bounds-doubles-p
offset_bounds-doubles-p g c = let a = c.args in
    omega (arith, column_room a.p a.rows g.row.N (length a.doubles.now) c.loop-r.r c.loop-j.j (omega arith) (omega arith) (omega arith))

pub bounds-doubles-p : goal.bounds-doubles-p
bounds-doubles-p g c = let a = c.args in
    column_room a.p a.rows g.row.N (length a.doubles.now) c.loop-r.r c.loop-j.j (omega arith) (omega arith) (omega arith)

pub loop-j-preserved : goal.loop-j-preserved
loop-j-preserved g c = let a = c.args in let j = c.loop-j.j in let r = c.loop-r.r in
    filling_next c.loop-j.invariant (λ (s : Float). ieee.plus s (ieee.times (at a.doubles.now (a.p + j * a.rows + r)) (at a.v.now (a.z + r)))) nan (omega arith) (omega arith)
    (sum_more a.doubles.now (a.p + start (dense a.rows) j) a.v.now a.z r (a.p + j * a.rows + r) (at c.loop-r.sums j) (c.loop-r.invariant.1 j c.loop-j-test.true) (omega (arith, start_dense a.rows j)))

pub loop-r-preserved : goal.loop-r-preserved
loop-r-preserved g c = (
  omega (arith, c.loop-j.invariant.long),
  λ j l.
      ap (λ (x : List Float). at x j) (filling_done c.loop-j.invariant (omega arith)) ∙ read_run 0 g.row.N _ _ c.loop-j.invariant.fits j j l (omega arith),
)

pub returns : goal.returns
returns g c = let a = c.args in let e : c.loop-r.r ≡ a.rows = omega arith in λ j l. rw e at (c.loop-r.invariant.1 j l)

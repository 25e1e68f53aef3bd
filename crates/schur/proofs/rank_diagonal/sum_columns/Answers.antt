use mathlib.Core.Path.{◌≡◌, refl}
use native.Mathlib.Omega.{arith}
use native.Mathlib.Numerals.{add-one}
use Rattle.storage.specs.Runs.{start, dense}
use Rattle.storage.specs.Placed.{as_columns}
use Rattle.storage.proofs.Starts.{start_below}
use Rattle.schur.proofs.rank_diagonal.Squares.{summed_none, summed_more}
use Rattle.schur.proofs.rank_diagonal.sum_columns.Goals as goal

pub loop-x-init : goal.loop-x-init
unfolding start
loop-x-init c = let a = c.args in (
  omega arith,
  omega arith,
  omega arith,
  refl,
  summed_none (as_columns a.a) a.src a.doubles.now 0 a.a.rows a.sums.now c.requires.zeros,
)

pub overflow_add-p : goal.overflow_add-p
overflow_add-p c = let a = c.args.a in omega (arith, start_below (dense a.rows) c.loop-x.x a.cols (omega arith))

pub overflow_add-q : goal.overflow_add-q
overflow_add-q c = let a = c.args.a in omega (arith, start_below (dense a.rows) c.loop-x.x a.cols (omega arith))

pub loop-x-preserved : goal.loop-x-preserved
unfolding start
loop-x-preserved c = let a = c.args in
    let l = c.loop-x in let t = c.add_column in (
      omega arith,
      rw add-one (omega arith),
      rw add-one (omega arith),
      omega arith,
      rw add-one
          (summed_more (as_columns a.a) a.src a.doubles.now 0 a.a.rows l.x l.sums t.new.sums l.invariant.4 t.ensures),
    )

pub returns : goal.returns
returns c = let l = c.loop-x in let e : l.x ≡ c.args.a.cols = omega arith in
    rw e at l.invariant.4

use mathlib.Core.Path.{◌∙◌}
use Prim.Native.Nat.{◌+◌}
use native.Mathlib.Omega.{arith}
use Rattle.storage.proofs.Filling.{filling_none, filling_done}
use Rattle.storage.specs.Runs.{start}
use Rattle.storage.specs.Shape.{columns, size_of}
use Rattle.block_runs.proofs.axpy.Sums.{left_fits, next_start}
use Rattle.cross_matvec.specs.Products.{held}
use Rattle.cross_matvec.proofs.Dense.{columns_more, columns_done, held_same, held_long}
use Rattle.cross_matvec.proofs.matvec_t.subtract_product.Goals as goal

pub loop-c-init : goal.loop-c-init
unfolding start
loop-c-init c = (omega arith, filling_none _ _ _ _ c.requires.places.0.cols)

pub subtract_some-k-requires : goal.subtract_some-k-requires
subtract_some-k-requires c = let a = c.args in let l = c.loop-c in
    omega (arith, held_long a.doubles l.v a.v.now (omega arith), left_fits _ _ l.c _ _ _ (omega arith) l.invariant.0 c.requires.places.1)

pub overflow_mul-p : goal.overflow_mul-p
overflow_mul-p c = let a = c.args.a in let l = c.loop-c in
    omega (arith, next_start a.at a.rows l.c c.subtract_some-k.result a.cols l.p (a.at + size_of (columns a.rows a.cols)) (omega arith) l.invariant.0 (omega arith))

pub overflow_add-p : goal.overflow_add-p
overflow_add-p c = let a = c.args.a in let l = c.loop-c in
    omega (arith, next_start a.at a.rows l.c c.subtract_some-k.result a.cols l.p (a.at + size_of (columns a.rows a.cols)) (omega arith) l.invariant.0 (omega arith))

pub loop-c-preserved : goal.loop-c-preserved
loop-c-preserved c = let a = c.args in let l = c.loop-c in let k = c.subtract_some-k in (
  (next_start _ _ l.c k.result _ _ _ (omega arith) l.invariant.0 c.requires.places.1).1,
  columns_more _ _ _ (held a.doubles a.v.now) _ c.requires.places.0 (held a.doubles l.v) k.result l.invariant.1 (omega arith) (held_same a.a a.doubles c.requires.places.2 l.invariant.1) l.p l.invariant.0 k.ensures.2,
)

pub returns : goal.returns
returns c = filling_done c.loop-c.invariant.1 (omega arith) ∙ columns_done _ _ _ _ _ c.requires.places.0 c.requires.places.1

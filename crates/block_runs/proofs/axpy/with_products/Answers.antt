use mathlib.Core.Path.{◌≡◌, refl, ap, ◌∙◌}
use native.Mathlib.Omega.{arith}
use lib.ListN.{length}
use Rattle.storage.specs.Shape.{columns}
use Rattle.rules.specs.Arithmetic.{ieee}
use Rattle.block_runs.specs.blocks.Blocks.{block}
use Rattle.block_runs.specs.axpy.Axpy.{at, along}
use Rattle.block_runs.proofs.axpy.Sums.{column_read, column_room, next_product}
use Rattle.block_runs.proofs.axpy.with_products.Goals as goal

pub loop-j-init : goal.loop-j-init
unfolding along
loop-j-init g c = refl

pub overflow_mul-sum : goal.overflow_mul-sum
overflow_mul-sum g c = let a = c.args in
    omega (arith, column_room a.p a.rows g.row.N (length a.doubles.now) c.args.i c.loop-j.j (omega arith) (omega arith) (omega arith))

pub overflow_add-sum : goal.overflow_add-sum
overflow_add-sum g c = let a = c.args in
    omega (arith, column_room a.p a.rows g.row.N (length a.doubles.now) c.args.i c.loop-j.j (omega arith) (omega arith) (omega arith))

pub overflow_add-sum-in-loop-j : goal.overflow_add-sum-in-loop-j
overflow_add-sum-in-loop-j g c = let a = c.args in
    omega (arith, column_room a.p a.rows g.row.N (length a.doubles.now) c.args.i c.loop-j.j (omega arith) (omega arith) (omega arith))

pub offset_bounds-doubles-p : goal.offset_bounds-doubles-p
offset_bounds-doubles-p g c = let a = c.args in
    omega (arith, column_room a.p a.rows g.row.N (length a.doubles.now) c.args.i c.loop-j.j (omega arith) (omega arith) (omega arith))

pub bounds-doubles-p : goal.bounds-doubles-p
bounds-doubles-p g c = let a = c.args in
    column_room a.p a.rows g.row.N (length a.doubles.now) c.args.i c.loop-j.j (omega arith) (omega arith) (omega arith)

pub loop-j-preserved : goal.loop-j-preserved
loop-j-preserved g c = let a = c.args in let l = c.loop-j in
    next_product ieee.plus _ _ _ _ _ l.invariant (column_read a.p a.rows g.row.N a.doubles.now a.i l.j (omega arith) (omega arith) (omega arith)) refl

pub returns : goal.returns
returns g c = let a = c.args in let e : c.loop-j.j ≡ g.row.N = omega arith in
    c.loop-j.invariant ∙ ap (along ieee.plus a.s (block a.p (columns a.rows g.row.N) a.doubles.now a.i) (at a.factors.now)) e

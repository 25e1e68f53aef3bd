use mathlib.Core.Path.{refl}
use native.Mathlib.Omega.{arith}
use Rattle.storage.specs.Placed.{as_triangle, as_columns}
use Rattle.block_runs.proofs.blocks.Going.{going_none, going_room, going_all, turn}
use Rattle.schur.proofs.Turns.{subtract_each, products_swapped}
use Rattle.schur.proofs.last_triangle.subtract_last.Goals as goal

pub loop-r-init : goal.loop-r-init
loop-r-init c = (refl, going_none (as_triangle c.args.t) _ c.args.doubles.now c.requires.1.target)

pub subtract_last_run-requires : goal.subtract_last_run-requires
subtract_last_run-requires c = omega (arith, going_room c.loop-r.invariant.1 (omega arith))

pub overflow_add-to-in-loop-r : goal.overflow_add-to-in-loop-r
overflow_add-to-in-loop-r c = omega (arith, going_room c.loop-r.invariant.1 (omega arith))

pub loop-r-preserved : goal.loop-r-preserved
loop-r-preserved c = let a = c.args.a in let P = c.requires.1 in
    (omega arith, turn c.loop-r.invariant.1 (omega arith) (subtract_each a.cols) (as_columns a) (as_columns a) _ P.off_left P.off_right (λ i. products_swapped a.cols _ _ _) (omega arith) refl c.subtract_last_run.ensures)

pub returns : goal.returns
returns c = going_all c.loop-r.invariant.1 (omega arith)

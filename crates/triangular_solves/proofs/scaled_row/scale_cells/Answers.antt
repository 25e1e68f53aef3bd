use Prim.Native.Nat.{◌+◌}
use mathlib.Core.Path.{ap}
use native.Mathlib.Omega.{arith}
use Rattle.storage.specs.Runs.{start}
use Rattle.storage.proofs.Starts.{start_dense}
use Rattle.storage.proofs.Filling.{filling_none, filling_more, filling_done}
use Rattle.rules.specs.Arithmetic.{ieee}
use Rattle.rules.specs.Begin.{fixed_cell}
use Rattle.triangular_solves.proofs.scaled_row.Scaled.{column_room, column_cell}
use Rattle.triangular_solves.proofs.scaled_row.scale_cells.Goals as goal

pub loop-c-init : goal.loop-c-init
unfolding start
loop-c-init c = (filling_none _ _ _ _ c.requires.2, omega arith)

pub overflow_add-v : goal.overflow_add-v
overflow_add-v c = omega (arith, column_room _ _ _ c.loop-c-test.true c.loop-c.invariant.1 c.requires.0)

pub offset_bounds-doubles-column : goal.offset_bounds-doubles-column
offset_bounds-doubles-column c = omega (arith, column_room _ _ _ c.loop-c-test.true c.loop-c.invariant.1 c.requires.0)

pub bounds-doubles-column : goal.bounds-doubles-column
bounds-doubles-column c = omega (arith, column_room _ _ _ c.loop-c-test.true c.loop-c.invariant.1 c.requires.0)

pub overflow_add-column : goal.overflow_add-column
overflow_add-column c = omega (arith, column_room _ _ _ c.loop-c-test.true c.loop-c.invariant.1 c.requires.0)

pub loop-c-preserved : goal.loop-c-preserved
loop-c-preserved c = let l = c.loop-c in (
  filling_more l.invariant.0 (omega arith) (ap (fixed_cell ieee c.args.theta) (column_cell _ _ _ (omega arith) l.invariant.1 _ c.requires.0 _ c.requires.1)),
  omega (arith, start_dense c.args.a.rows l.c, start_dense c.args.a.rows (l.c + 1)),
)

pub returns : goal.returns
returns c = filling_done c.loop-c.invariant.0 (omega arith)

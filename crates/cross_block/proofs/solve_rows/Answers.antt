use mathlib.Core.Path.{refl}
use native.Mathlib.Omega.{arith}
use native.Mathlib.Numerals.{add-one}
use Rattle.storage.specs.Runs.{start, triangle, dense}
use Rattle.storage.specs.Placed.{as_columns}
use Rattle.storage.proofs.Starts.{start_below, start_le}
use Rattle.block_runs.proofs.blocks.Going.{going_none, going_room, going_all}
use Rattle.cross_block.proofs.Turns.{solve_turn}
use Rattle.cross_block.proofs.solve_rows.Goals as goal

pub loop-c-init : goal.loop-c-init
unfolding start
loop-c-init c = (refl, omega arith, going_none (as_columns c.args.t) _ c.args.doubles.now c.requires.1.target)

pub solve_column-requires : goal.solve_column-requires
solve_column-requires c = let a = c.args in let l = c.loop-c in
    omega (arith, going_room l.invariant.2 (omega arith), start_below triangle l.c a.f.rows (omega arith), start_le (dense a.t.rows) l.c a.t.cols (omega arith))

pub overflow_add-to : goal.overflow_add-to
overflow_add-to c = omega (arith, going_room c.loop-c.invariant.2 (omega arith))

pub overflow_add-row-in-loop-c : goal.overflow_add-row-in-loop-c
overflow_add-row-in-loop-c c = omega (arith, start_below triangle c.loop-c.c c.args.f.rows (omega arith))

pub loop-c-preserved : goal.loop-c-preserved
unfolding start
loop-c-preserved c = let l = c.loop-c in
    (omega arith, rw add-one (omega arith), solve_turn l.row c.requires.1 l.invariant.2 c.loop-c-test.true l.invariant.1 refl c.solve_column.ensures)

pub returns : goal.returns
returns c = going_all c.loop-c.invariant.2 (omega arith)

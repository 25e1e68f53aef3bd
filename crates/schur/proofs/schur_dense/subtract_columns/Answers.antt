use mathlib.Core.Path.{refl}
use native.Mathlib.Omega.{arith}
use Rattle.storage.specs.Placed.{as_columns}
use Rattle.block_runs.proofs.blocks.Going.{going_none, going_room, going_all}
use Rattle.schur.proofs.Turns.{room_for_two}
use Rattle.schur.proofs.schur_dense.Laws.{one_turn, two_turns}
use Rattle.schur.proofs.schur_dense.subtract_columns.Goals as goal

pub loop-c-init : goal.loop-c-init
loop-c-init c = (refl, refl, going_none (as_columns c.args.t) _ c.args.doubles.now c.requires.1.target)

pub subtract_pair-requires : goal.subtract_pair-requires
subtract_pair-requires c = let e = c.loop-c.invariant.2 in
    (rw e.long c.requires.1, omega arith, omega arith, omega arith, room_for_two e (omega arith))

pub overflow_add-to : goal.overflow_add-to
overflow_add-to c = omega (arith, room_for_two c.loop-c.invariant.2 (omega arith))

pub loop-c-preserved : goal.loop-c-preserved
loop-c-preserved c = (omega arith, omega arith, two_turns c.requires.1 c.loop-c.invariant.2 (omega arith) refl c.subtract_pair.ensures)

pub subtract_run-requires : goal.subtract_run-requires
subtract_run-requires c = omega (arith, going_room c.loop-c.invariant.2 (omega arith))

pub returns-then-c-t : goal.returns-then-c-t
returns-then-c-t c = going_all (one_turn c.requires.1 c.loop-c.invariant.2 (omega arith) refl c.subtract_run.ensures) (omega arith)

pub returns-else-c-t : goal.returns-else-c-t
returns-else-c-t c = going_all c.loop-c.invariant.2 (omega arith)

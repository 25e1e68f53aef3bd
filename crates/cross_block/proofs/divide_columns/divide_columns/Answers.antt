use mathlib.Core.Path.{refl}
use Prim.Native.Nat.{ℕ, ◌+◌}
use native.Mathlib.Omega.{arith}
use borrow.Author.Rules.{rules}
use lib.Ieee.{Float}
use Rattle.rules.specs.Arithmetic.{ieee}
use Rattle.block_runs.specs.axpy.Axpy.{at}
use Rattle.storage.specs.Placed.{as_columns}
use Rattle.storage.proofs.Starts.{start_single}
use Rattle.block_runs.proofs.blocks.Going.{going_none, going_room, going_all}
use Rattle.cross_block.proofs.Turns.{divide_turn}
use Rattle.cross_block.proofs.divide_columns.divide_columns.Goals as goal

pub loop-c-init : goal.loop-c-init
loop-c-init c = going_none (as_columns c.args.t) _ c.args.doubles.now c.requires.target

pub overflow_add-p : goal.overflow_add-p
overflow_add-p c = omega (arith, start_single c.args.f.rows)

pub offset_bounds-doubles-f : goal.offset_bounds-doubles-f
offset_bounds-doubles-f c = omega (arith, start_single c.args.f.rows)

pub bounds-doubles-f : goal.bounds-doubles-f
bounds-doubles-f c = omega (arith, start_single c.args.f.rows)

pub change-requires : goal.change-requires
change-requires c = record { room = omega (arith, going_room c.loop-c.invariant c.loop-c-test.true); always = λ i x l. tt }

pub overflow_add-to : goal.overflow_add-to
overflow_add-to c = omega (arith, going_room c.loop-c.invariant (omega arith))

pub loop-c-preserved : goal.loop-c-preserved
loop-c-preserved c = divide_turn c.requires c.loop-c.invariant c.loop-c-test.true refl
    (c.change.ensures (λ (i : ℕ) (x : Float). ieee.over x (at c.loop-c.doubles (c.args.f.at + c.loop-c.c))) (λ i x r l post. search rules))

pub returns : goal.returns
returns c = going_all c.loop-c.invariant (omega arith)

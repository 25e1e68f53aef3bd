use mathlib.Core.Path.{refl}
use native.Mathlib.Omega.{arith}
use Rattle.block_runs.specs.blocks.Blocks.{row_from}
use Rattle.schur.proofs.sparse_schur.Laws.{sparse_none, sparse_all, source_room, target_room, sparse_more}
use Rattle.schur.proofs.sparse_schur.subtract_sparse.Goals as goal

pub loop-x-init : goal.loop-x-init
loop-x-init c = (refl, sparse_none c.requires.1)

pub overflow_add-f : goal.overflow_add-f
overflow_add-f c = omega (arith, source_room c.requires.1 c.loop-x.invariant.1 (omega arith))

pub offset_bounds-doubles-v : goal.offset_bounds-doubles-v
offset_bounds-doubles-v c = omega (arith, source_room c.requires.1 c.loop-x.invariant.1 (omega arith))

pub bounds-doubles-v : goal.bounds-doubles-v
bounds-doubles-v c = omega (arith, source_room c.requires.1 c.loop-x.invariant.1 (omega arith))

pub overflow_mul-c : goal.overflow_mul-c
overflow_mul-c c = let k = row_from c.args.heading.now c.args.first c.loop-x.x in
    omega (arith, target_room c.requires.1 c.loop-x.invariant.1 c.loop-x-test.true k refl c.requires.3)

pub subtract_column-requires : goal.subtract_column-requires
subtract_column-requires c = let k = row_from c.args.heading.now c.args.first c.loop-x.x in
    let l = c.loop-x.invariant in let h = c.loop-x-test.true in
    omega (arith, target_room c.requires.1 l.1 h k refl c.requires.3, source_room c.requires.1 l.1 h)

pub overflow_add-ax : goal.overflow_add-ax
overflow_add-ax c = omega (arith, source_room c.requires.1 c.loop-x.invariant.1 (omega arith))

pub loop-x-preserved : goal.loop-x-preserved
loop-x-preserved c = let k = row_from c.args.heading.now c.args.first c.loop-x.x in
    (omega arith, sparse_more c.requires.1 c.loop-x.invariant.1 c.loop-x-test.true k refl c.requires.3 refl c.subtract_column.ensures)

pub returns : goal.returns
returns c = sparse_all c.requires.1 c.loop-x.invariant.1 (omega arith)

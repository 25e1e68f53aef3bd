-- `schur::few_rows::subtract_few`: the sums, then the block is lent.
use Prim.Native.Nat.{◌+◌, ◌*◌, ◌-◌}
use native.Mathlib.Omega.{arith}
use Rattle.storage.proofs.Parts.{length_part}
use Rattle.schur.proofs.few_rows.Laws.{few_subtracted, few_room, block_ends}
use Rattle.schur.proofs.few_rows.subtract_few.Goals as goal

pub overflow_mul-end : goal.overflow_mul-end
overflow_mul-end c = omega (arith, block_ends c.args.t)

pub overflow_add-end : goal.overflow_add-end
overflow_add-end c = omega (arith, block_ends c.args.t)

pub sum_rows-requires : goal.sum_rows-requires
sum_rows-requires c = let a = c.args in omega (arith, few_room a.a.rows a.b.rows (omega arith) (omega arith))

pub slice_bounds-subtract_columns-end : goal.slice_bounds-subtract_columns-end
slice_bounds-subtract_columns-end c = omega (arith, block_ends c.args.t)

pub subtract_columns-requires : goal.subtract_columns-requires
subtract_columns-requires c = let a = c.args in let t = a.t in let e = block_ends t in
    omega (arith, e, few_room t.rows t.cols (omega arith) (omega arith), length_part t.at (t.at + t.cols * t.rows - t.at) a.doubles.now (omega (arith, e)))

pub returns : goal.returns
returns c = let a = c.args in let t = a.t in
    few_subtracted a.doubles.now _ _ _ (t.at + t.cols * t.rows) t a.a a.b c.requires.2 (block_ends t) (few_room t.rows t.cols c.requires.0 c.requires.1) c.sum_rows.ensures c.subtract_columns.ensures

-- `solution_vectors::block_start`: the block's rows are among the vector's.
use native.Mathlib.Omega.{arith}
use Rattle.block_places.proofs.sheet_rows.AllRows.{rows_within}
use Rattle.solution_vectors.proofs.block_start.Goals as goal

pub overflow_add-result : goal.overflow_add-result
overflow_add-result c = record { fits = omega (arith, rows_within c.args.layout c.requires.0 c.args.j c.requires.1) }

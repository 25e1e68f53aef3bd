-- `schur::sparse_schur::subtract_sparse`: the first x entries are subtracted.
use mathlib.Core.Path.{◌≡◌}
use lib.ListN.{length}
use Rattle.block_runs.specs.blocks.Blocks.{row_from}
use Rattle.schur.proofs.sparse_schur.Laws.{Subtracting}
use Rattle.schur.proofs.sparse_schur.subtract_sparse.Given as goal

abbrev pub invariant-loop-x : goal.invariant-loop-x
invariant-loop-x l = (length l.acc ≡ 316) × Subtracting (row_from l.heading l.first) l.t l.fn.a l.v l.initial.doubles l.x l.ax l.doubles

-- `schur::rank_diagonal_sparse::sum_entries`: the sums over the first x columns.
use Prim.Native.Nat.{◌≤◌}
use mathlib.Core.Path.{◌≡◌}
use lib.ListN.{length}
use Rattle.storage.specs.Placed.{as_entries}
use Rattle.block_runs.specs.blocks.Blocks.{row_from}
use Rattle.schur.specs.rank_diagonal.Rows.{Summed}
use Rattle.schur.proofs.rank_diagonal_sparse.sum_entries.Given as goal

abbrev pub invariant-loop-x : goal.invariant-loop-x
invariant-loop-x l = (l.x ≤ l.a.cols) × (length l.sums ≡ length l.initial.sums) × Summed (as_entries (row_from l.heading l.first) l.a) l.src l.doubles l.from l.m l.x l.sums

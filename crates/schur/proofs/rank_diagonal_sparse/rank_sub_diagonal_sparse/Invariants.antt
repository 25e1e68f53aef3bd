-- `schur::rank_diagonal_sparse::rank_sub_diagonal_sparse`: the rows before `from` are done.
use Prim.Native.Nat.{◌≤◌, ◌-◌}
use mathlib.Core.Path.{◌≡◌}
use lib.ListN.{length}
use Rattle.storage.specs.Placed.{as_entries}
use Rattle.block_runs.specs.blocks.Blocks.{row_from}
use Rattle.schur.specs.rank_diagonal.Rows.{done_rows}
use Rattle.schur.proofs.rank_diagonal_sparse.rank_sub_diagonal_sparse.Given as goal

abbrev pub invariant-loop-from : goal.invariant-loop-from
invariant-loop-from l = (l.from ≤ l.t.rows) × (length l.doubles ≡ length l.initial.doubles) × (l.doubles ≡ done_rows l.t (as_entries (row_from l.heading l.first) l.a) l.src l.from l.initial.doubles)

abbrev pub decreases-loop-from : goal.decreases-loop-from
decreases-loop-from l = l.t.rows - l.from

-- `schur::rank_diagonal::sum_columns`: the sums over the first x columns; p and q are where column x starts.
use Prim.Native.Nat.{◌≤◌, ◌+◌}
use mathlib.Core.Path.{◌≡◌}
use lib.ListN.{length}
use Rattle.storage.specs.Runs.{start, dense}
use Rattle.storage.specs.Placed.{as_columns}
use Rattle.schur.specs.rank_diagonal.Rows.{Summed}
use Rattle.schur.proofs.rank_diagonal.sum_columns.Given as goal

abbrev pub invariant-loop-x : goal.invariant-loop-x
invariant-loop-x l = (l.x ≤ l.a.cols) × (l.p ≡ l.a.at + start (dense l.a.rows) l.x) × (l.q ≡ l.src + start (dense l.a.rows) l.x) × (length l.sums ≡ length l.initial.sums) × Summed (as_columns l.a) l.src l.doubles 0 l.a.rows l.x l.sums

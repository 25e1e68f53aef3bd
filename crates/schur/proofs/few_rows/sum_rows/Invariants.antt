-- `schur::few_rows::sum_rows`: the sums of the first r rows are there.
use mathlib.Core.Path.{◌≡◌}
use Prim.Native.Nat.{◌-◌}
use lib.ListN.{length}
use Rattle.storage.specs.Runs.{dense}
use Rattle.storage.specs.Shape.{columns, size_of}
use Rattle.block_runs.proofs.blocks.Runs.{Writing}
use Rattle.schur.specs.few_rows.Few.{row_sums}
use Rattle.schur.proofs.few_rows.sum_rows.Given as goal

abbrev pub invariant-loop-r : goal.invariant-loop-r
invariant-loop-r l = (length l.acc ≡ 316) × (length l.acc2 ≡ 316) × Writing 0 (size_of (columns l.b.rows l.a.rows)) (dense l.b.rows) l.a.rows (row_sums l.a l.b l.doubles) l.initial.t l.r l.from l.t

abbrev pub decreases-loop-r : goal.decreases-loop-r
decreases-loop-r l = l.a.rows - l.r

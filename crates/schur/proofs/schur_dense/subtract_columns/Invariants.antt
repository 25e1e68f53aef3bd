-- `schur::schur_dense::subtract_columns`: the first c columns are written.
use mathlib.Core.Path.{◌≡◌}
use Prim.Native.Nat.{◌-◌}
use lib.ListN.{length}
use Rattle.storage.specs.Placed.{as_columns}
use Rattle.schur.specs.Schur.{subtract_dots}
use Rattle.block_runs.proofs.blocks.Going.{Going}
use Rattle.schur.proofs.schur_dense.subtract_columns.Given as goal

abbrev pub invariant-loop-c : goal.invariant-loop-c
invariant-loop-c l = (length l.acc ≡ 316) × (length l.acc2 ≡ 316) × Going (as_columns l.t) (subtract_dots l.t l.a l.b l.initial.doubles) l.initial.doubles l.c l.to l.doubles

abbrev pub decreases-loop-c : goal.decreases-loop-c
decreases-loop-c l = l.t.cols - l.c

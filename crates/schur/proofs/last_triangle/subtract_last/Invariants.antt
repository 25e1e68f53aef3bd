-- `schur::last_triangle::subtract_last`: the first r rows are written.
use mathlib.Core.Path.{◌≡◌}
use lib.ListN.{length}
use Rattle.storage.specs.Placed.{as_triangle}
use Rattle.schur.specs.Schur.{subtract_last_cell}
use Rattle.block_runs.proofs.blocks.Going.{Going}
use Rattle.schur.proofs.last_triangle.subtract_last.Given as goal

abbrev pub invariant-loop-r : goal.invariant-loop-r
invariant-loop-r l = (length l.acc ≡ 316) × Going (as_triangle l.t) (subtract_last_cell l.t l.a l.initial.doubles) l.initial.doubles l.r l.to l.doubles

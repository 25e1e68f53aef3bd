-- `schur::dense_triangle::rank_sub`: the first r rows are written.
use mathlib.Core.Path.{◌≡◌}
use lib.ListN.{length}
use Rattle.storage.specs.Placed.{as_triangle}
use Rattle.schur.specs.Schur.{subtract_squares}
use Rattle.block_runs.proofs.blocks.Going.{Going}
use Rattle.schur.proofs.dense_triangle.rank_sub.Given as goal

abbrev pub invariant-loop-r : goal.invariant-loop-r
invariant-loop-r l = (length l.acc ≡ 316) × Going (as_triangle l.t) (subtract_squares l.t l.a l.initial.doubles) l.initial.doubles l.r l.to l.doubles

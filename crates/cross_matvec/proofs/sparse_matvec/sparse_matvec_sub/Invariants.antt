-- `cross_matvec::sparse_matvec::sparse_matvec_sub`: the first c sources are subtracted.
use mathlib.Core.Path.{◌≡◌}
use Prim.Native.Nat.{◌≤◌}
use lib.ListN.{length}
use Rattle.rules.specs.Arithmetic.{ieee}
use Rattle.rules.specs.Solves.{sparse_matvec_sub}
use Rattle.block_runs.specs.blocks.Blocks.{entry}
use Rattle.block_runs.specs.axpy.Axpy.{run}
use Rattle.cross_matvec.specs.Products.{row_in}
use Rattle.cross_matvec.proofs.sparse_matvec.sparse_matvec_sub.Given as goal

abbrev pub invariant-loop-c : goal.invariant-loop-c
invariant-loop-c l = (l.c ≤ l.a.cols) × (length l.v ≡ length l.initial.v)
    × (l.v ≡ run l.to l.a.rows (sparse_matvec_sub ieee (row_in l.rows) (entry l.a.at l.a.cols l.doubles) (entry l.z l.a.cols l.initial.v) (entry l.to l.a.rows l.initial.v) l.c) l.initial.v)

-- `cross_matvec::column_sums::sums`: each sum has its first r products, then the first j of them one more.
use Prim.Native.Nat.{ℕ, ◌+◌, ◌<◌}
use mathlib.Core.Path.{◌≡◌}
use lib.ListN.{length}
use Rattle.storage.specs.Runs.{start, dense}
use Rattle.storage.proofs.Filling.{Filling}
use Rattle.block_runs.specs.axpy.Axpy.{at}
use Rattle.cross_matvec.specs.Products.{column_sum}
use Rattle.cross_matvec.proofs.column_sums.sums.Given as goal

abbrev pub invariant-loop-r : goal.invariant-loop-r
invariant-loop-r g l = (length l.sums ≡ g.row.N) × ((j : ℕ) → j < g.row.N → at l.sums j ≡ column_sum l.doubles (l.p + start (dense l.rows) j) l.v l.z l.r)

abbrev pub invariant-loop-j : goal.invariant-loop-j
invariant-loop-j g l = Filling (λ j. column_sum l.doubles (l.p + start (dense l.rows) j) l.v l.z (l.r + 1)) 0 g.row.N l.initial.sums l.sums l.j

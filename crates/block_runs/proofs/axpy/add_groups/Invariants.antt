-- `block_runs::axpy::add_groups`: each sum has the products of k groups.
use Prim.Native.Nat.{◌*◌}
use Rattle.block_runs.specs.axpy.Axpy.{add_or_subtract}
use Rattle.block_runs.proofs.axpy.Sums.{Adding}
use Rattle.block_runs.proofs.axpy.add_groups.Given as goal

abbrev pub invariant-loop-k : goal.invariant-loop-k
invariant-loop-k g l = Adding (add_or_subtract l.subtract) l.initial.acc l.n l.doubles l.a l.rows l.v l.b l.step l.r l.inner (l.k * g.row.N) l.p l.q l.acc

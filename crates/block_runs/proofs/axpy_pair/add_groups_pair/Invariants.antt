-- `block_runs::axpy_pair::add_groups_pair`: each sum of either list has the products of k groups.
use Prim.Native.Nat.{◌+◌, ◌*◌}
use Rattle.rules.specs.Arithmetic.{ieee}
use Rattle.block_runs.proofs.axpy.Sums.{Adding}
use Rattle.block_runs.proofs.axpy_pair.add_groups_pair.Given as goal

abbrev pub invariant-loop-k : goal.invariant-loop-k
invariant-loop-k g l = Adding ieee.plus l.initial.acc l.n l.doubles l.a l.rows l.v l.b l.step l.r l.inner (l.k * g.row.N) l.p l.q l.acc
    × Adding ieee.plus l.initial.acc2 l.n l.doubles l.a l.rows l.v l.b l.step (l.r + 1) l.inner (l.k * g.row.N) l.p l.q l.acc2

-- `block_runs::runs::copy`: the first i doubles are copied.
use Prim.Native.Nat.{◌+◌}
use Rattle.storage.proofs.Filling.{Filling}
use Rattle.block_runs.specs.axpy.Axpy.{at}
use Rattle.block_runs.proofs.runs.copy.Given as goal

abbrev pub invariant-loop-i : goal.invariant-loop-i
invariant-loop-i l = Filling (λ x. at l.s (l.from + x)) l.to l.n l.initial.t l.t l.i

-- `cross_block::scaling::scale_once`: the first i doubles are written.
use Prim.Native.Nat.{◌+◌}
use Rattle.storage.proofs.Filling.{Filling}
use Rattle.rules.specs.Arithmetic.{ieee}
use Rattle.rules.specs.Begin.{fixed_cell}
use Rattle.block_runs.specs.axpy.Axpy.{at}
use Rattle.cross_block.proofs.scaling.scale_once.Given as goal

abbrev pub invariant-loop-i : goal.invariant-loop-i
invariant-loop-i l = Filling (λ x. fixed_cell ieee l.t (at l.initial.doubles (l.src + x))) l.off l.n l.initial.doubles l.doubles l.i

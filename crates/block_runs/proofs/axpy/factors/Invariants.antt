-- `block_runs::axpy::factors`: the first j factors are there.
use Rattle.storage.specs.Shape.{columns}
use Rattle.storage.proofs.Filling.{Filling}
use Rattle.block_runs.specs.blocks.Blocks.{block}
use Rattle.block_runs.specs.axpy.Axpy.{signed_of}
use Rattle.block_runs.proofs.axpy.factors.Given as goal

abbrev pub invariant-loop-j : goal.invariant-loop-j
invariant-loop-j g l = Filling (λ x. signed_of l.subtract (block l.q (columns l.step g.row.N) l.v l.r x)) 0 g.row.N l.initial.f l.f l.j

-- `block_runs::axpy::add`: the first i of the sums have their products.
use Rattle.storage.specs.Shape.{columns}
use Rattle.storage.proofs.Filling.{Filling}
use Rattle.rules.specs.Arithmetic.{ieee}
use Rattle.block_runs.specs.blocks.Blocks.{block}
use Rattle.block_runs.specs.axpy.Axpy.{at, along}
use Rattle.block_runs.proofs.axpy.add.Given as goal

abbrev pub invariant-loop-i : goal.invariant-loop-i
invariant-loop-i g l = Filling (λ i. along ieee.plus (at l.initial.acc i) (block l.p (columns l.rows g.row.N) l.doubles i) (at l.factors) g.row.N) 0 l.n l.initial.acc l.acc l.i

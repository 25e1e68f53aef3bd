-- `block_runs::axpy::with_products`: the sum has the first j products.
use mathlib.Core.Path.{◌≡◌}
use Rattle.storage.specs.Shape.{columns}
use Rattle.rules.specs.Arithmetic.{ieee}
use Rattle.block_runs.specs.blocks.Blocks.{block}
use Rattle.block_runs.specs.axpy.Axpy.{at, along}
use Rattle.block_runs.proofs.axpy.with_products.Given as goal

abbrev pub invariant-loop-j : goal.invariant-loop-j
invariant-loop-j g l = l.sum ≡ along ieee.plus l.s (block l.p (columns l.rows g.row.N) l.doubles l.i) (at l.factors) l.j

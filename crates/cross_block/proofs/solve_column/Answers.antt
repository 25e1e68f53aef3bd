-- `cross_block::solve_column`: the column, less its products, divided.
use Prim.Native.Nat.{ℕ, ◌+◌}
use native.Mathlib.Omega.{arith}
use borrow.Author.Rules.{rules}
use lib.Ieee.{Float}
use Rattle.rules.specs.Arithmetic.{ieee}
use Rattle.block_runs.specs.axpy.Axpy.{at}
use Rattle.storage.proofs.Starts.{start_dense}
use Rattle.cross_block.proofs.Turns.{column_solved}
use Rattle.cross_block.proofs.solve_column.Goals as goal

pub subtract_products-requires : goal.subtract_products-requires
subtract_products-requires c = omega (arith, start_dense 1 c.args.c)

pub returns : goal.returns
returns c = let a = c.args in
    column_solved a.doubles.now _ a.acc.now _ _ a.t a.c a.to a.row (omega arith) c.copy.ensures c.subtract_products.ensures
    (c.change.ensures (λ (i : ℕ) (x : Float). ieee.over (at c.subtract_products.new.acc i) (at a.doubles.now (a.row + a.c))) (λ i x r l post. search rules))

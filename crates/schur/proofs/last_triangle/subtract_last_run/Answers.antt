-- `schur::last_triangle::subtract_last_run`: the run, then its products.
use Prim.Native.Nat.{ℕ}
use native.Mathlib.Omega.{arith}
use borrow.Author.Rules.{rules}
use lib.Ieee.{Float}
use Rattle.block_runs.specs.axpy.Axpy.{at}
use Rattle.schur.proofs.Turns.{products_put, lies_as}
use Rattle.schur.proofs.last_triangle.subtract_last_run.Goals as goal

pub subtract_products-requires : goal.subtract_products-requires
subtract_products-requires c = omega (arith, lies_as _ _ c.args.b c.requires.3 c.requires.7)

pub returns : goal.returns
returns c = let a = c.args in
    products_put a.doubles.now _ a.acc.now _ _ a.to a.n a.a a.b a.r c.requires.1 c.requires.3 c.copy.ensures c.subtract_products.ensures
    (c.change.ensures (λ (i : ℕ) (x : Float). at c.subtract_products.new.acc i) (λ i x r l post. search rules))

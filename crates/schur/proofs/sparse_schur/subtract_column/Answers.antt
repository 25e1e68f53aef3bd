-- `schur::sparse_schur::subtract_column`: the other column is read, then its multiple subtracted.
use Prim.Native.Nat.{ℕ, ◌+◌}
use native.Mathlib.Omega.{arith}
use borrow.Author.Rules.{rules}
use lib.Ieee.{Float}
use Rattle.rules.specs.Arithmetic.{ieee}
use Rattle.block_runs.specs.axpy.Axpy.{at}
use Rattle.schur.proofs.sparse_schur.Laws.{column_subtracted}
use Rattle.schur.proofs.sparse_schur.subtract_column.Goals as goal

pub returns : goal.returns
returns c = let a = c.args in
    column_subtracted a.doubles.now _ a.acc.now _ (a.off + a.to) a.rows a.ax a.f (omega arith) c.copy.ensures
    (c.change.ensures (λ (i : ℕ) (x : Float). ieee.minus x (ieee.times (at c.copy.new.t i) a.f)) (λ i x r l post. search rules))

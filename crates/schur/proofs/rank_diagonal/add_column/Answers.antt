-- `schur::rank_diagonal::add_column`: each row's sum with its cell.
use Prim.Native.Nat.{ℕ, ◌+◌, ◌<◌}
use mathlib.Core.Bool.{true}
use native.Mathlib.Omega.{arith}
use borrow.Author.Rules.{rules}
use lib.ListN.{length}
use lib.Ieee.{Float}
use Rattle.storage.specs.Runs.{dense}
use Rattle.storage.proofs.Starts.{start_below}
use Rattle.block_runs.specs.axpy.Axpy.{at}
use Rattle.schur.specs.rank_diagonal.Rows.{plus_square}
use Rattle.schur.proofs.rank_diagonal.Squares.{column_added}
use Rattle.schur.proofs.rank_diagonal.add_column.Goals as goal

pub change-requires-clause-always : goal.change-requires-clause-always
change-requires-clause-always c = let a = c.args in
    let room : (r : ℕ) → r < a.a.rows → (a.q + r < length a.doubles.now) × (a.p + r < length a.doubles.now) =
    λ r l. omega (arith, start_below (dense a.a.rows) a.x a.a.cols (omega arith)) in
    λ i x l. let h = room i l in search (rules, h)

pub returns : goal.returns
returns c = let a = c.args in
    column_added a.a a.src a.doubles.now a.x a.sums.now (omega arith) (omega arith) (omega arith) a.p a.q (omega arith) (omega arith) (omega arith)
    (c.change.ensures (λ (r : ℕ) (y : Float). plus_square true (at a.doubles.now (a.q + r)) (at a.doubles.now (a.p + r)) y) (λ i x r l post. search rules))

-- `schur::few_rows::subtract_column`: the sums of column c are `cols` apart.
use Prim.Native.Nat.{ℕ, ◌+◌, ◌*◌, ◌<◌}
use mathlib.Core.Path.{◌≡◌}
use lib.ListN.{length}
use native.Mathlib.Omega.{arith}
use borrow.Author.Rules.{rules}
use lib.Ieee.{Float}
use Rattle.storage.specs.Runs.{start, dense}
use Rattle.storage.proofs.Starts.{start_below, start_dense}
use Rattle.rules.specs.Arithmetic.{ieee}
use Rattle.block_runs.specs.axpy.Axpy.{at}
use Rattle.schur.proofs.few_rows.subtract_column.Goals as goal

pub change-requires-clause-always : goal.change-requires-clause-always
change-requires-clause-always c = let a = c.args in
    let room : (i : ℕ) → i < a.rows → i * a.cols + a.c < length a.sums.now = λ i l. omega (arith, start_dense a.cols i, start_below (dense a.cols) i a.rows l) in
    λ i x l. let h = room i l in search (rules, h)

pub returns : goal.returns
returns c = let a = c.args in
    c.change.ensures (λ (i : ℕ) (x : Float). ieee.minus x (at a.sums.now (start (dense a.cols) i + a.c))) (λ i x r l post. let e : i * a.cols + a.c ≡ start (dense a.cols) i + a.c = omega (arith, start_dense a.cols i) in rw (← e) (search rules))

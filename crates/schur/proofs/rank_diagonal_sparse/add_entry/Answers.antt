-- `schur::rank_diagonal_sparse::add_entry`: the entry's row is among the rows, or not.
use Prim.Native.Nat.{◌-◌}
use native.Mathlib.Omega.{arith}
use Rattle.schur.proofs.rank_diagonal.Squares.{entry_elsewhere, entry_here}
use Rattle.schur.proofs.rank_diagonal_sparse.add_entry.Goals as goal

pub returns-then-row-from : goal.returns-then-row-from
returns-then-row-from c = let a = c.args in
    entry_elsewhere a.from a.m a.row a.cell a.v a.sums.now (λ i h e. absurd (omega arith))

pub returns-then-i-m : goal.returns-then-i-m
returns-then-i-m c = let a = c.args in
    entry_elsewhere a.from a.m a.row a.cell a.v a.sums.now (λ i h e. absurd (omega arith))

pub returns : goal.returns
returns c = let a = c.args in
    entry_here a.from a.m a.row a.cell a.v a.sums.now (a.row - a.from) (omega arith) (omega arith) c.plus_square.result c.plus_square.ensures

-- `schur::rank_diagonal::rank_sub_diagonal`: the sums start at 0.0, and are over all columns where they are subtracted.
use Prim.Native.Nat.{ℕ}
use mathlib.Core.Path.{subst}
use lib.ListN.{get_or-replicate}
use lib.Ieee.{nan}
use native.Mathlib.Omega.{arith}
use Rattle.storage.specs.Placed.{as_columns}
use Rattle.storage.proofs.Starts.{start_single}
use Rattle.rules.specs.Arithmetic.{ieee}
use Rattle.schur.specs.rank_diagonal.Rows.{Summed}
use Rattle.schur.proofs.rank_diagonal.Chunks.{rows_once}
use borrow.Author.Rules.{rules}
use Rattle.schur.proofs.rank_diagonal.rank_sub_diagonal.Goals as goal

pub sum_columns-requires : goal.sum_columns-requires
sum_columns-requires c = record { rows_in_bounds = search rules; zeros = λ i h. get_or-replicate 316 i ieee.zero nan (omega arith) }

pub subtract-requires : goal.subtract-requires
subtract-requires c = omega (arith, start_single c.args.t.rows)

pub returns : goal.returns
returns c = let a = c.args in let P = c.requires.1 in let sums = c.sum_columns in
    rows_once a.t (as_columns a.a) a.src a.doubles.now P.target P.off_left P.off_source sums.new.sums
    (subst (λ (n : ℕ). Summed (as_columns a.a) a.src a.doubles.now 0 n a.a.cols sums.new.sums) P.rows sums.ensures)
    c.subtract.new.doubles c.subtract.ensures

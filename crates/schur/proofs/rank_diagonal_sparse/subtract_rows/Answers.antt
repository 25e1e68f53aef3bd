-- `schur::rank_diagonal_sparse::subtract_rows`: the sums start at 0.0, and are over all columns where they are subtracted.
use mathlib.Core.Path.{◌∙◌}
use lib.ListN.{get_or-replicate}
use lib.Ieee.{nan}
use native.Mathlib.Omega.{arith}
use Rattle.storage.specs.Placed.{as_entries}
use Rattle.rules.specs.Arithmetic.{ieee}
use Rattle.block_runs.specs.blocks.Blocks.{row_from}
use Rattle.schur.proofs.rank_diagonal.Chunks.{each_row}
use borrow.Author.Rules.{rules}
use Rattle.schur.proofs.rank_diagonal_sparse.subtract_rows.Goals as goal

pub sum_entries-requires : goal.sum_entries-requires
sum_entries-requires c = record { m_in_bounds = search rules; zeros = λ i h. get_or-replicate 8192 i ieee.zero nan (omega arith) }

pub returns : goal.returns
returns c = let a = c.args in
    let sums = c.sum_entries in c.subtract.ensures
    ∙ each_row a.t (as_entries (row_from a.heading.now a.first) a.a) a.src a.from a.m a.doubles.now sums.new.sums sums.ensures

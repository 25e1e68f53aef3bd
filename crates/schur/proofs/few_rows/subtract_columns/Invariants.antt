-- `schur::few_rows::subtract_columns`: the first c columns are written.
use Rattle.storage.specs.Runs.{dense}
use Rattle.storage.specs.Shape.{columns, size_of}
use Rattle.block_runs.proofs.blocks.Runs.{Writing}
use Rattle.schur.specs.few_rows.Few.{subtract_sums}
use Rattle.schur.proofs.few_rows.subtract_columns.Given as goal

abbrev pub invariant-loop-c : goal.invariant-loop-c
invariant-loop-c l = Writing 0 (size_of (columns l.rows l.cols)) (dense l.rows) l.cols (subtract_sums l.rows l.cols l.sums l.initial.t) l.initial.t l.c l.to l.t

use mathlib.Core.Path.{◌≡◌, refl}
use native.Mathlib.Omega.{arith}
use Rattle.storage.specs.Placed.{as_entries}
use Rattle.storage.proofs.Starts.{start_single}
use Rattle.block_runs.specs.blocks.Blocks.{row_from}
use Rattle.schur.proofs.rank_diagonal.Chunks.{rows_none, rows_all, rows_more}
use Rattle.schur.proofs.rank_diagonal_sparse.rank_sub_diagonal_sparse.Goals as goal

pub loop-from-init : goal.loop-from-init
loop-from-init c = let a = c.args in
    (omega arith, refl, rows_none a.t (as_entries (row_from a.heading.now a.first) a.a) a.src a.doubles.now)

pub chunk-m-requires : goal.chunk-m-requires
chunk-m-requires c = tt

pub subtract_rows-requires : goal.subtract_rows-requires
subtract_rows-requires c = let a = c.args in omega (arith, start_single a.t.rows, start_single a.a.cols)

pub loop-from-smaller : goal.loop-from-smaller
loop-from-smaller c = let q = c.chunk-m.ensures.2 (omega arith) in omega arith

pub loop-from-preserved : goal.loop-from-preserved
loop-from-preserved c = let a = c.args in let P = c.requires.0 in
    let l = c.loop-from in let t = c.subtract_rows in (
      omega arith,
      omega arith,
      rows_more a.t (as_entries (row_from a.heading.now a.first) a.a) a.src a.doubles.now P.target P.off_left P.off_source
          l.from c.chunk-m.result (omega arith) l.doubles l.invariant.2 t.new.doubles t.ensures,
    )

pub returns : goal.returns
returns c = let a = c.args in let l = c.loop-from in
    let e : l.from ≡ a.t.rows = omega arith in
    rows_all a.t (as_entries (row_from a.heading.now a.first) a.a) a.src a.doubles.now l.doubles (rw e at l.invariant.2)

use borrow.Author.Rules.{rules}
use Prim.Native.Nat.{ℕ}
use mathlib.Core.Path.{◌≡◌, refl}
use native.Mathlib.Omega.{arith}
use native.Mathlib.Numerals.{add-one}
use Rattle.storage.specs.Placed.{as_entries}
use Rattle.block_runs.specs.blocks.Blocks.{row_from}
use Rattle.schur.proofs.rank_diagonal.Squares.{summed_none, summed_more, entry_added}
use Rattle.schur.proofs.rank_diagonal_sparse.sum_entries.Goals as goal

pub loop-x-init : goal.loop-x-init
loop-x-init c = let a = c.args in (
  search rules,
  refl,
  summed_none (as_entries (row_from a.heading.now a.first) a.a) a.src a.doubles.now a.from a.m a.sums.now c.requires.zeros,
)

pub loop-x-preserved : goal.loop-x-preserved
loop-x-preserved c = let a = c.args in
    let l = c.loop-x in
    let t = c.add_entry in
    let row : ℕ → ℕ = row_from a.heading.now a.first in (
      omega arith,
      omega arith,
      rw add-one
          (summed_more (as_entries row a.a) a.src a.doubles.now a.from a.m l.x l.sums t.new.sums l.invariant.2
          (entry_added a.a a.src row a.doubles.now a.from a.m l.x (omega arith) (omega arith) (omega arith)
          l.sums t.new.sums (row l.x) refl t.ensures)),
    )

pub returns : goal.returns
returns c = let l = c.loop-x in
    let e : l.x ≡ c.args.a.cols = omega arith in rw e at l.invariant.2

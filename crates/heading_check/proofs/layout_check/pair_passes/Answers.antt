-- `heading_check::layout_check::pair_passes`: an arm for each answer of the gate.
use native.Mathlib.Omega.{arith}
use Rattle.heading_check.proofs.layout_check.Tests.{pair_dense, pair_sparse, pair_refused}
use borrow.Author.Rules.{rules}
use Rattle.heading_check.proofs.layout_check.pair_passes.Goals as goal

pub pair_of-requires : goal.pair_of-requires
pair_of-requires c = let rows = c.requires.0.level c.args.i (search rules) in
    let cols = c.requires.0.level c.args.j (search rules) in
    (omega (arith, c.level-rows.ensures), omega (arith, c.level-cols.ensures), omega (arith, c.level-cols.ensures))

pub returns-in-Ok-Dense : goal.returns-in-Ok-Dense
returns-in-Ok-Dense c = search pair_dense

pub returns-in-Ok-Sparse : goal.returns-in-Ok-Sparse
returns-in-Ok-Sparse c = search pair_sparse

pub returns-in-Err : goal.returns-in-Err
returns-in-Err c = search pair_refused

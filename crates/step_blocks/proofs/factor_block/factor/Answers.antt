-- `step_blocks::factor_block::factor`: the block, then the logarithms unless a pivot is refused.
use native.Mathlib.Omega.{arith}
use Rattle.std.proofs.lemmas.Result.{err_from_is_err_and}
use Rattle.step_blocks.proofs.factor_block.Laws.{limited, first_diagonal, block_fits, still_fits, refused_left, accepted_left}
use Rattle.step_blocks.proofs.factor_block.factor.Goals as goal

pub block-b-requires : goal.block-b-requires
block-b-requires c = let a = c.args in (c.requires.0.valid, omega arith, c.requires.1)

pub factor_block-requires : goal.factor_block-requires
factor_block-requires c = let a = c.args in
    rw (c.block-b.ensures, c.factor_kind-kind.ensures) (block_fits a.heading.now a.doubles.now a.layout c.requires.0 a.j c.requires.1, limited a.heading.now a.doubles.now a.layout c.requires.0 a.j c.requires.1)

pub add_logs-requires : goal.add_logs-requires
add_logs-requires c = let a = c.args in
    let k = still_fits a.heading.now a.doubles.now a.layout c.requires.0 a.j c.requires.1 _ _ (rw (c.block-b.ensures, c.factor_kind-kind.ensures) at c.factor_block.ensures) in
    rw (c.block-b.ensures, c.factor_kind-kind.ensures)
    record {
      layout_value = (c.requires.0.valid, k.0);
      lies = (k.1, limited a.heading.now a.doubles.now a.layout c.requires.0 a.j c.requires.1, first_diagonal a.heading.now a.doubles.now a.layout c.requires.0 a.j c.requires.1);
    }

pub returns-in_err-factor_block : goal.returns-in_err-factor_block
returns-in_err-factor_block c = let a = c.args in
    let p = err_from_is_err_and c.from_residual.result c.from_residual.ensures.1 in
    rw (p.1, p.2)
    (refused_left a.heading.now a.doubles.now a.layout c.requires.0 a.j c.requires.1 _ _ (rw (c.block-b.ensures, c.factor_kind-kind.ensures) at c.factor_block.ensures) _ c.in_err-factor_block.was)

pub returns : goal.returns
returns c = let a = c.args in
    accepted_left a.heading.now a.doubles.now a.layout c.requires.0 a.j c.requires.1 _ _ (rw (c.block-b.ensures, c.factor_kind-kind.ensures) at c.factor_block.ensures) c.in_ok-factor_block.was
    _ (rw (c.block-b.ensures, c.factor_kind-kind.ensures) at c.add_logs.ensures)

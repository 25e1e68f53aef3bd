-- `step_blocks::solve_block::substitute`: a dense block with a triangle.
use Rattle.step_blocks.proofs.solve_block.Ready.{solve_ready}
use Rattle.step_blocks.proofs.solve_block.substitute.Goals as goal

pub solve_rows-requires : goal.solve_rows-requires
solve_rows-requires c = let a = c.args in
    rw (c.block-t.ensures, c.block-f.ensures) (solve_ready a.layout c.requires.0.valid (λ x. 0) _ c.requires.0.room a.i a.j c.requires.1 c.requires.2 c.requires.3)

pub returns : goal.returns
returns c = rw (c.block-t.ensures, c.block-f.ensures) at c.solve_rows.ensures

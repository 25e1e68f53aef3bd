-- `schur::rank_diagonal::plus_square`: the test is the definition's.
use Rattle.schur.proofs.rank_diagonal.Squares.{square_skipped, square_added}
use Rattle.schur.proofs.rank_diagonal.plus_square.Goals as goal

pub returns-then-cell : goal.returns-then-cell
returns-then-cell c = let a = c.args in square_skipped a.cell a.v a.y c.if-cell.true

pub returns : goal.returns
returns c = let a = c.args in square_added a.cell a.v a.y c.if-cell.false

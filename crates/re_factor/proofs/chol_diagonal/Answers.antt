-- `re_factor::chol_diagonal`: the lent part is the diagonal.
use mathlib.Core.Path.{sym}
use native.Mathlib.Omega.{arith}
use Rattle.storage.specs.Shape.{diagonal, size_of, cell}
use Rattle.storage.specs.Placed.{as_diagonal}
use Rattle.storage.proofs.Starts.{start_single}
use Rattle.rules.specs.Arithmetic.{ieee}
use Rattle.rules.specs.Cholesky.{pivots}
use Rattle.re_lower.specs.Lower.{left_of_diagonal}
use Rattle.re_lower.proofs.Blocks.{diagonal_room}
use Rattle.re_factor.specs.Factor.{pivot_at}
use Rattle.re_factor.proofs.Lends.{lent_factor}
use Rattle.re_factor.proofs.chol_diagonal.Goals as goal

pub returns : goal.returns
returns c = let a = c.args in let p = c.chol_diagonal in
    let k = start_single a.b.rows in lent_factor a.doubles.now a.b.at _ (size_of (diagonal a.b.rows)) (sym k) (omega arith) p.new.t
    (λ x. pivots ieee (λ r. cell ieee.zero (diagonal a.b.rows) x r r) a.b.rows) (λ x. left_of_diagonal (λ r. cell ieee.zero (diagonal a.b.rows) x r r) a.b.rows) p.result
    (λ e. omega (arith, diagonal_room (pivot_at (as_diagonal a.b) a.doubles.now) a.b.rows p.result e)) p.ensures.answer p.ensures.left

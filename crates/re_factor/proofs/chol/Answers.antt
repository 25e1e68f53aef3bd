-- `re_factor::chol`: the lent part is the triangle.
use native.Mathlib.Omega.{arith}
use Rattle.storage.specs.Shape.{packed, size_of, cell}
use Rattle.storage.specs.Placed.{as_triangle, read}
use Rattle.rules.specs.Arithmetic.{ieee}
use Rattle.rules.specs.Cholesky.{radicand, pivots}
use Rattle.re_lower.specs.Lower.{left_of_triangle}
use Rattle.re_lower.proofs.Blocks.{triangle_room}
use Rattle.re_factor.proofs.Lends.{lent_factor}
use Rattle.re_factor.proofs.chol.Goals as goal

pub returns : goal.returns
returns c = let a = c.args in let p = c.chol in
    lent_factor a.doubles.now a.b.at _ (size_of (packed a.b.rows)) c.row_start.ensures (omega arith) p.new.t
    (λ x. pivots ieee (radicand ieee (cell ieee.zero (packed a.b.rows) x)) a.b.rows) (λ x. left_of_triangle (cell ieee.zero (packed a.b.rows) x) a.b.rows) p.result
    (triangle_room (read (as_triangle a.b) a.doubles.now) a.b.rows p.result) p.ensures.answer p.ensures.left

-- `re_factor::block_solve::forward`: the lent parts are the entries and the triangle.
use native.Mathlib.Omega.{arith}
use Rattle.rules.specs.Arithmetic.{ieee}
use Rattle.rules.specs.Cholesky.{forward}
use Rattle.re_factor.proofs.Lends.{lent_solve}
use Rattle.rules.proofs.Rows.{length_forward}
use Rattle.re_factor.proofs.block_solve.forward.Goals as goal

pub returns : goal.returns
returns c = let a = c.args in
    let p = c.solve_row in
    lent_solve (λ b f. forward ieee b f a.b.rows) a.b.rows (λ b f. length_forward ieee b f a.b.rows) a.v.now a.z (omega arith)
    a.doubles.now a.b.at _ c.row_start.ensures p.new.t p.ensures

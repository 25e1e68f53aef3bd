-- `re_factor::block_solve::backward`: the lent parts are the entries and the triangle.
use native.Mathlib.Omega.{arith}
use Rattle.rules.specs.Arithmetic.{ieee}
use Rattle.rules.specs.Solves.{backward}
use Rattle.re_lower.proofs.Back.{length_backward}
use Rattle.re_factor.proofs.Lends.{lent_solve}
use Rattle.re_factor.proofs.block_solve.backward.Goals as goal

pub returns : goal.returns
returns c = let a = c.args in
    let p = c.backward in
    lent_solve (λ b f. backward ieee b f a.b.rows a.b.rows) a.b.rows (λ b f. length_backward ieee b f a.b.rows a.b.rows) a.v.now a.z (omega arith)
    a.doubles.now a.b.at _ c.row_start.ensures p.new.t p.ensures

-- `cross_matvec::matvec_t::subtract`: the sums, then the entries less them.
use Prim.Native.Nat.{◌+◌}
use mathlib.Core.Path.{ap, ◌∙◌}
use mathlib.Core.List.{List}
use lib.Ieee.{Float}
use Rattle.std.specs.Borrow.{Bor}
use Rattle.storage.specs.Runs.{start, dense}
use Rattle.cross_matvec.specs.Products.{held, column_sum}
use Rattle.cross_matvec.proofs.Dense.{columns_subtracted, held_read}
use Rattle.cross_matvec.proofs.matvec_t.subtract.Goals as goal

pub returns : goal.returns
returns g c = let a = c.args in
    columns_subtracted a.to a.p a.rows a.z g.row.N (held a.doubles a.v.now) a.v.now _ _
    (λ j l. c.sums-sums.ensures j l
    ∙ ap (λ (w : List Float). column_sum w (a.p + start (dense a.rows) j) a.v.now a.z a.rows) (ap (λ (b : Bor (List Float)). b.now) c.unwrap_or.ensures ∙ held_read a.doubles _))
    c.subtract.ensures

-- `cross_matvec::column_sums::one`: the first of one sum.
use mathlib.Core.Path.{ap, ◌∙◌}
use Prim.Native.Nat.{ℕ}
use native.Mathlib.Omega.{arith}
use Rattle.storage.proofs.Starts.{start_dense}
use Rattle.cross_matvec.specs.Products.{column_sum}
use Rattle.cross_matvec.proofs.column_sums.one.Goals as goal

pub sums-requires : goal.sums-requires
sums-requires c = omega (arith, start_dense c.args.rows 1)

pub returns : goal.returns
returns c = let a = c.args in
    c.sums.ensures 0 (omega arith) ∙ ap (λ (x : ℕ). column_sum a.doubles.now x a.v.now a.z a.rows) (omega (arith, start_dense a.rows 0))

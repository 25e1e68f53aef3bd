use mathlib.Core.Path.{◌≡◌, refl}
use native.Mathlib.Omega.{arith}
use Rattle.solution_finish.proofs.xtx_minus_vtw.subtract_rows.Goals as goal

pub loop-i-init : goal.loop-i-init
loop-i-init c = (refl, c.requires)

pub subtract_row-requires : goal.subtract_row-requires
subtract_row-requires c = (omega arith, c.loop-i.invariant.1)

pub loop-i-preserved : goal.loop-i-preserved
loop-i-preserved c = (omega arith, c.subtract_row.ensures)

pub shape_of-v : goal.shape_of-v
shape_of-v c = c.loop-i.invariant.0

pub returns : goal.returns
returns c = let i = c.loop-i.i in
    let e : i ≡ c.args.lent.layout.p = omega (arith, c.loop-i.invariant.1.within) in
    rw e at c.loop-i.invariant.1

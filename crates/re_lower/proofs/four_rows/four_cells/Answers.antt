use Prim.Native.Nat.{◌*◌}
use native.Mathlib.Omega.{arith}
use Rattle.storage.proofs.Filling.{filling_none, filling_more, filling_done, array_done}
use Rattle.re_lower.proofs.Band.{sums_start, four_sums, sum_turn, quotient_is}
use Rattle.re_lower.proofs.four_rows.four_cells.Goals as goal

pub loop-y-init : goal.loop-y-init
loop-y-init c = let a = c.args in sums_start a.x.now a.l.now a.from a.c (omega arith)

pub loop-i-init : goal.loop-i-init
loop-i-init c = let a = c.args in let l = c.loop-y in
    filling_none _ 0 4 l.s (omega (arith, four_sums a.x.now a.l.now a.from a.c l.s l.y l.invariant))

pub loop-i-preserved : goal.loop-i-preserved
loop-i-preserved c = let a = c.args in let l = c.loop-y in
    sum_turn a.x.now a.l.now a.from a.c l.s l.y l.invariant c.loop-i.invariant (omega arith) (omega arith) (omega arith)

pub loop-y-preserved : goal.loop-y-preserved
loop-y-preserved c = let a = c.args in let l = c.loop-y in
    array_done c.loop-i.invariant (omega arith) (four_sums a.x.now a.l.now a.from a.c l.s l.y l.invariant)

pub loop-r-init : goal.loop-r-init
loop-r-init c = let a = c.args in filling_none _ (4 * a.c) 4 a.x.now (omega arith)

pub loop-r-preserved : goal.loop-r-preserved
loop-r-preserved c = let a = c.args in let l = c.loop-y in
    filling_more c.loop-r.invariant (omega arith) (quotient_is a.x.now a.l.now a.from a.c l.s l.y l.invariant (omega arith) (omega arith) c.loop-r.r (omega arith))

pub returns : goal.returns
returns c = filling_done c.loop-r.invariant (omega arith)

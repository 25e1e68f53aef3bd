use Prim.Native.Nat.{◌-◌, ◌+◌}
use mathlib.Core.Path.{◌≡◌}
use native.Mathlib.Omega.{arith}
use Rattle.sheet_checks.proofs.levels.Reading.{slope_start, slope_found, slope_more, slope_none}
use Rattle.sheet_checks.proofs.levels.slope_at.Goals as goal

pub loop-i-init : goal.loop-i-init
loop-i-init c = slope_start _ _ _

pub returns-then-l-ne1 : goal.returns-then-l-ne1
returns-then-l-ne1 c = slope_found c.loop-i.invariant (omega arith) c.block_line-l.ensures c.if-l-ne1.true

pub loop-i-preserved : goal.loop-i-preserved
loop-i-preserved c = let e : c.args.k - (c.loop-i.i + 1) ≡ c.args.k - c.loop-i.i - 1 = omega arith in
    rw e (slope_more c.loop-i.invariant (omega arith) c.block_line-l.ensures c.if-l-ne1.false)

pub returns : goal.returns
returns c = slope_none c.loop-i.invariant (omega arith)

use Rattle.std.proofs.Common.{lit≤}
use Prim.Native.Nat.{◌+◌, ◌*◌}
use mathlib.Core.Path.{◌≡◌}
use native.Mathlib.Omega.{arith}
use Rattle.sheet_checks.proofs.mirror_scan.Passes.{judged_none, judged_on, few_columns}
use Rattle.sheet_checks.proofs.mirror.groups.Goals as goal

pub loop-i-init : goal.loop-i-init
loop-i-init c = judged_none c.requires.0

pub group-r-requires : goal.group-r-requires
group-r-requires c = let p = c.requires in (p.0, p.1, p.2, omega (arith, few_columns p.0, c.div_ceil-i-end.ensures), lit≤ tt)

pub loop-i-preserved : goal.loop-i-preserved
loop-i-preserved c = let e : 65536 * (c.loop-i.i + 1) ≡ 65536 * c.loop-i.i + 65536 = omega arith in
    rw e (judged_on c.requires.0 c.loop-i.invariant c.group-r.ensures c.earlier-first.ensures)

use mathlib.Core.Path.{refl, ◌∙◌}
use native.Mathlib.Omega.{arith}
use Rattle.sheet_checks.proofs.mirror_scan.Passes.{pass_start, pass_end}
use Rattle.sheet_checks.proofs.mirror_scan.pass.Goals as goal

pub loop-i-init : goal.loop-i-init
loop-i-init c = let p = c.requires in (refl, pass_start p.0 _ _ p.2 p.4)

pub check_entry-k-requires : goal.check_entry-k-requires
check_entry-k-requires c = let p = c.requires in let v = c.loop-i.invariant in
    ((_, p.0, c.loop-i-test.true), p.1, v.1, omega (arith, p.3, v.0))

pub loop-i-preserved : goal.loop-i-preserved
loop-i-preserved c = let t = c.check_entry-k.ensures in (t.0 ∙ c.loop-i.invariant.0, t.1)

pub first_fault-requires : goal.first_fault-requires
first_fault-requires c = let p = c.requires in let v = c.loop-i.invariant in
    (p.0, pass_end p.0 v.1 c.loop-i-test.false, omega (arith, p.3, v.0))

pub returns : goal.returns
returns c = rw (c.loop-i.invariant.0) at c.first_fault.ensures

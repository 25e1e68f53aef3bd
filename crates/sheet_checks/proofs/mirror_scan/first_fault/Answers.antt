use mathlib.Core.Path.{◌∙◌}
use Rattle.sheet_checks.proofs.mirror_scan.Passes.{scan_start, scan_hit, scan_miss, scan_end}
use Rattle.sheet_checks.proofs.mirror_scan.first_fault.Goals as goal
use Rattle.sheet_checks.proofs.mirror_scan.first_fault.Goals.{then-o-col, else-o-col}

pub loop-col-init : goal.loop-col-init
loop-col-init c = scan_start c.requires.0 c.requires.1

pub loop-col-preserved : goal.loop-col-preserved
loop-col-preserved c = let p = c.requires in let v = c.loop-col.invariant in let from = c.loop-col.auto.col in
    let h = c.loop-col-test.true in let q = c.pair_line-o.ensures in
    elim c.if-o-col.branch [
      | then-o-col w ↦ scan_hit p.0 p.1 v from h q w.if-o-col.true (w.first-is ∙ w.earlier-first.ensures)
      | else-o-col w ↦ scan_miss p.0 p.1 v from h q w.if-o-col.false w.first-is
    ]

pub returns : goal.returns
returns c = scan_end c.requires.0 c.requires.1 c.loop-col.invariant c.loop-col-test.false

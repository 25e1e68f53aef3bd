use borrow.Author.Rules.{rules}
use Rattle.sheet_checks.proofs.mirror_step.Cursors.{skipping_start, skipping_on, skipping_less, skipping_end}
use Rattle.sheet_checks.proofs.mirror_step.skip_passed.Goals as goal

pub loop-l-init : goal.loop-l-init
loop-l-init c = search skipping_start

pub loop-l-smaller : goal.loop-l-smaller
loop-l-smaller c = let p = c.requires in
    skipping_less c.loop-l.invariant p.0.1 p.0.2 p.1 p.2 p.3

pub loop-l-preserved : goal.loop-l-preserved
loop-l-preserved c = search skipping_on

pub returns : goal.returns
returns c = let p = c.requires in
    skipping_end c.loop-l.invariant p.0.1 p.0.2 p.1 p.2 p.3 c.is_passed.ensures (search rules)

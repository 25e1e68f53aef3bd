use native.Mathlib.Omega.{arith}
use borrow.Author.Rules.{rules}
use Rattle.heading_check.proofs.order_check.Sheets.{summed_none, summed_more, summed_done}
use Rattle.heading_check.proofs.layout_check.total.Goals as goal

pub loop-j-init : goal.loop-j-init
loop-j-init c = (search rules, search summed_none)

pub overflow_add-t : goal.overflow_add-t
overflow_add-t c = record { fits = omega (arith, c.level-t.ensures, c.requires.level c.loop-j.j (search rules)) }

pub loop-j-preserved : goal.loop-j-preserved
loop-j-preserved c = (search rules, summed_more c.loop-j.invariant.1 c.level-t.ensures (c.requires.level _ (search rules)))

pub returns : goal.returns
returns c = search summed_done

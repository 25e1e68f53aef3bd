use native.Mathlib.Omega.{arith}
use Rattle.sheet_checks.proofs.levels.Sums.{summed_start, summed_more, summed_fits, summed_done}
use Rattle.sheet_checks.proofs.levels.start.Goals as goal

pub loop-i-init : goal.loop-i-init
loop-i-init c = summed_start _ _

pub overflow_add-t : goal.overflow_add-t
overflow_add-t c = record { fits = search summed_fits }

pub loop-i-preserved : goal.loop-i-preserved
loop-i-preserved c = search summed_more

pub returns : goal.returns
returns c = summed_done c.loop-i.invariant (omega arith)

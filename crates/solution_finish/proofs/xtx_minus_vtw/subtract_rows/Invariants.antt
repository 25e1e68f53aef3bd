-- `solution_finish::xtx_minus_vtw::subtract_rows`: i rows are made.
use mathlib.Core.Path.{◌≡◌}
use lib.ListN.{length}
use Rattle.solution_finish.specs.fixed_rows.Fixing.{Fixing}
use Rattle.solution_finish.proofs.xtx_minus_vtw.subtract_rows.Given as goal

abbrev pub invariant-loop-i : goal.invariant-loop-i
invariant-loop-i l = (length l.v ≡ length l.initial.v) × Fixing l.lent.heading.now l.lent.doubles.now l.lent.layout l.i l.v

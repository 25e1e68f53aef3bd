-- `sheet_checks::mirror_step::skip_passed`: the cursor has moved past faulty lines. It stays within the bytes.
use Prim.Native.Nat.{◌-◌}
use lib.ListN.{length}
use Rattle.sheet_checks.proofs.mirror_step.Cursors.{Skipping}
use Rattle.sheet_checks.proofs.mirror_step.skip_passed.Given as goal

abbrev pub invariant-loop-l : goal.invariant-loop-l
invariant-loop-l l = Skipping l.bytes l.i l.due l.l l.initial.at l.initial.first l.at l.first l.o

abbrev pub decreases-loop-l : goal.decreases-loop-l
decreases-loop-l l = length l.bytes - l.at

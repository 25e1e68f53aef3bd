-- `sheet_checks::levels::slope_at`: the blocks that are left have a slope where all have one.
use Prim.Native.Nat.{◌-◌}
use Rattle.sheet.specs.Fault.{any_of}
use Rattle.sheet_checks.specs.levels.Held.{blocks_at}
use Rattle.sheet_checks.proofs.levels.Reading.{Slopes, slope}
use Rattle.sheet_checks.proofs.levels.slope_at.Given as goal

abbrev pub invariant-loop-i : goal.invariant-loop-i
invariant-loop-i l = Slopes (any_of slope (blocks_at l.bytes l.k l.from)) l.bytes l.at (l.k - l.i)

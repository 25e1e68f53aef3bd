-- `re_lower::four_rows::four_cells`: each of the four is its cell less the first y products, and the first r of them are divided.
use mathlib.Core.Path.{◌≡◌}
use Prim.Native.Nat.{◌+◌}
use Rattle.storage.specs.Runs.{tab}
use Rattle.storage.proofs.Filling.{Filling}
use Rattle.re_lower.specs.Band.{next_cell}
use Rattle.re_lower.proofs.Band.{lane_sum}
use Rattle.re_lower.proofs.four_rows.four_cells.Given as goal

abbrev pub invariant-loop-y : goal.invariant-loop-y
invariant-loop-y l = l.s ≡ tab 4 (lane_sum l.x l.l l.from l.c l.y)

abbrev pub invariant-loop-i : goal.invariant-loop-i
invariant-loop-i l = Filling (lane_sum l.x l.l l.from l.c (l.y + 1)) 0 4 l.initial.s l.s l.i

abbrev pub invariant-loop-r : goal.invariant-loop-r
invariant-loop-r l = Filling (next_cell l.initial.x l.l l.from l.c) l.k 4 l.initial.x l.x l.r

-- `layout_gate::sorted_levels`: the levels picked so far are stored, and the rest follow.
use Rattle.layout_gate.proofs.Picking.{Picked}
use Rattle.layout_gate.proofs.sorted_levels.Given as goal

abbrev pub invariant-loop-i : goal.invariant-loop-i
invariant-loop-i l = Picked l.m l.order l.k l.r l.i

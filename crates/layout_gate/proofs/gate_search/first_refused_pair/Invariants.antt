-- `layout_gate::gate_search::first_refused_pair`: no pair before the one at hand is refused.
use Prim.Native.Nat.{◌-◌}
use Rattle.layout_gate.proofs.gate_search.Found.{Clear}
use Rattle.layout_gate.proofs.gate_search.first_refused_pair.Given as goal

abbrev pub invariant-loop-jj : goal.invariant-loop-jj
invariant-loop-jj l = Clear l.layout l.found l.j l.jj

abbrev pub invariant-pairs : goal.invariant-pairs
invariant-pairs l = Clear l.layout l.found l.j 0

abbrev pub decreases-pairs : goal.decreases-pairs
decreases-pairs l = l.layout.k - l.j

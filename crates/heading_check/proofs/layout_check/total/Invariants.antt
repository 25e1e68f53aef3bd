-- `heading_check::layout_check::total`: the first j levels are summed.
use Prim.Native.Nat.{◌≤◌}
use Rattle.heading_check.proofs.order_check.Sheets.{Summed}
use Rattle.heading_check.proofs.layout_check.total.Given as goal

abbrev pub invariant-loop-j : goal.invariant-loop-j
invariant-loop-j l = (l.j ≤ l.k) × Summed l.layout l.t l.j

-- `triangular_solves::solve_rows`: the first r rows are solved.
use Prim.Native.Nat.{◌≤◌}
use Rattle.triangular_solves.proofs.Rows.{Rows}
use Rattle.triangular_solves.proofs.solve_rows.Given as goal

abbrev pub invariant-loop-r : goal.invariant-loop-r
invariant-loop-r l = Rows l.lent.heading.now l.lent.doubles.now l.lent.layout l.v l.r × (l.r ≤ l.end)

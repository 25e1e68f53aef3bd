-- `heading_check::order_check::by_sheet`: the first s sorted blocks stand by sheet index.
use Prim.Native.Nat.{◌≤◌}
use Rattle.heading_check.proofs.order_check.Sheets.{Sheets}
use Rattle.heading_check.proofs.order_check.by_sheet.Given as goal

abbrev pub invariant-loop-s : goal.invariant-loop-s
invariant-loop-s l = (l.s ≤ l.k) × Sheets l.layout l.r l.s

-- `sheet_checks::mirror_scan::first_fault`: the columns before the one that is looked at have all their mirrors before `first`.
use Rattle.sheet_checks.proofs.mirror_scan.Passes.{Scanned}
use Rattle.sheet_checks.proofs.mirror_scan.first_fault.Given as goal

abbrev pub invariant-loop-col : goal.invariant-loop-col
invariant-loop-col l = Scanned l.bytes l.fn.starts l.base l.fn.k l.first l.col

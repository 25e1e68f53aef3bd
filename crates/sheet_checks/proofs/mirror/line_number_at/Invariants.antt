-- `sheet_checks::mirror::line_number_at`: none of the i lines looked at starts at `at`.
use Rattle.sheet_checks.proofs.mirror_scan.Passes.{Sought}
use Rattle.sheet_checks.proofs.mirror.line_number_at.Given as goal

abbrev pub invariant-loop-i : goal.invariant-loop-i
invariant-loop-i l = Sought l.bytes l.initial.place l.n l.at l.place l.i

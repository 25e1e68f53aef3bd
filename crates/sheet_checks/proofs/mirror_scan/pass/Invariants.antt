-- `sheet_checks::mirror_scan::pass`: entry by entry, and what is left at the end.
use mathlib.Core.Path.{◌≡◌}
use lib.ListN.{length}
use Rattle.sheet_checks.specs.mirror_cursor.Turns.{Pass}
use Rattle.sheet_checks.proofs.mirror_scan.pass.Given as goal

abbrev pub invariant-loop-i : goal.invariant-loop-i
invariant-loop-i l = (length l.cur ≡ length l.initial.cur) × Pass l.bytes l.starts l.base l.cur l.i l.k

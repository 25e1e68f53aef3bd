-- `sheet_checks::mirror::groups`: the groups that were looked at are judged.
use Prim.Native.Nat.{◌*◌}
use Rattle.sheet_checks.specs.mirror_scan.Mirror.{Judged}
use Rattle.sheet_checks.proofs.mirror.groups.Given as goal

abbrev pub invariant-loop-i : goal.invariant-loop-i
invariant-loop-i l = Judged l.bytes l.starts 0 (65536 * l.i) l.first

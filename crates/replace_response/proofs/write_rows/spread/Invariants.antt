-- `replace_response::write_rows::spread`: the first c cells are copied.
use Prim.Native.Nat.{◌≤◌}
use mathlib.Core.Path.{◌≡◌}
use lib.ListN.{length}
use Rattle.replace_response.specs.write_rows.Strided.{strided, from}
use Rattle.replace_response.proofs.write_rows.spread.Given as goal

abbrev pub invariant-loop-c : goal.invariant-loop-c
invariant-loop-c l = (l.c ≤ l.n) × (l.doubles ≡ strided l.to l.step l.c (from l.l l.at) l.initial.doubles) × (length l.doubles ≡ length l.initial.doubles)

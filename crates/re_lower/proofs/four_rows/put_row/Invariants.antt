-- `re_lower::four_rows::put_row`: the invariant is that the first c cells are there and nothing else has changed.
use mathlib.Core.Path.{◌≡◌}
use Prim.Native.Nat.{◌≤◌}
use lib.ListN.{length}
use Rattle.re_lower.specs.Band.{lane_stored}
use Rattle.re_lower.proofs.four_rows.put_row.Given as goal

abbrev pub invariant-loop-c : goal.invariant-loop-c
invariant-loop-c l = (l.c ≤ l.n) × (length l.t ≡ length l.initial.t) × (l.t ≡ lane_stored l.initial.t l.x l.from l.i l.c)

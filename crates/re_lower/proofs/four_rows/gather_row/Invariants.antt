-- `re_lower::four_rows::gather_row`: the invariant is that the first c cells are there and the other rows as they were.
use mathlib.Core.Path.{◌≡◌}
use Prim.Native.Nat.{◌≤◌}
use lib.ListN.{length}
use Rattle.re_lower.specs.Band.{Gathered}
use Rattle.re_lower.proofs.four_rows.gather_row.Given as goal

abbrev pub invariant-loop-c : goal.invariant-loop-c
invariant-loop-c l = (l.c ≤ l.n) × (length l.x ≡ length l.initial.x) × Gathered l.initial.x l.t l.x l.from l.i l.c

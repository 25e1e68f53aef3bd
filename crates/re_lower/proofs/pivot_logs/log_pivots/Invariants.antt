-- `re_lower::pivot_logs::log_pivots`: the invariant is that v is s and the first r logarithms.
use mathlib.Core.Path.{◌≡◌}
use Prim.Native.Nat.{◌≤◌}
use Rattle.storage.specs.Runs.{start, triangle}
use Rattle.re_lower.specs.Lower.{logs_of_triangle}
use Rattle.re_lower.proofs.pivot_logs.log_pivots.Given as goal

abbrev pub invariant-loop-r : goal.invariant-loop-r
invariant-loop-r l = (l.r ≤ l.n) × (l.from ≡ start triangle l.r) × (l.v ≡ logs_of_triangle l.t l.r l.s)

-- `re_lower::pivot_logs::log_diagonal`: the invariant is that v is s and the first r logarithms.
use mathlib.Core.Path.{◌≡◌}
use Prim.Native.Nat.{◌≤◌}
use Rattle.re_lower.specs.Lower.{logs_of_diagonal}
use Rattle.re_lower.proofs.pivot_logs.log_diagonal.Given as goal

abbrev pub invariant-loop-r : goal.invariant-loop-r
invariant-loop-r l = (l.r ≤ l.n) × (l.v ≡ logs_of_diagonal l.t l.r l.s)

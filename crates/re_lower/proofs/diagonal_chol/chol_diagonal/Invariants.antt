-- `re_lower::diagonal_chol::chol_diagonal`: the invariant is that the first r cells are the roots of what stood there, and none was refused.
use mathlib.Core.Path.{◌≡◌}
use Prim.Native.Nat.{◌≤◌}
use lib.ListN.{length}
use mathlib.Core.Option.{none}
use Rattle.storage.specs.Part.{store}
use Rattle.rules.specs.Arithmetic.{ieee}
use Rattle.rules.specs.Cholesky.{pivots}
use Rattle.re_lower.specs.Lower.{pivot}
use Rattle.re_lower.proofs.Turns.{roots_to}
use Rattle.re_lower.proofs.diagonal_chol.chol_diagonal.Given as goal

abbrev pub invariant-loop-r : goal.invariant-loop-r
invariant-loop-r l = (l.r ≤ l.n) × (length l.t ≡ length l.initial.t) × (l.t ≡ store 0 (roots_to l.initial.t l.r) l.initial.t) × (pivots ieee (pivot l.initial.t) l.r ≡ none)

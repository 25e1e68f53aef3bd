-- `re_lower::cholesky::chol_bands`: the invariant is that the first r rows are those of the factor, none of their pivots is refused, and the band has the first cells of its rows.
use mathlib.Core.Path.{◌≡◌}
use Prim.Native.Nat.{◌≤◌}
use lib.ListN.{length}
use mathlib.Core.Option.{none}
use Rattle.storage.specs.Runs.{start, triangle}
use Rattle.storage.specs.Part.{store}
use Rattle.rules.specs.Arithmetic.{ieee}
use Rattle.rules.specs.Cholesky.{radicand, pivots}
use Rattle.re_lower.specs.Lower.{lower}
use Rattle.re_lower.specs.Band.{BandReady}
use Rattle.re_lower.proofs.Turns.{rows_to}
use Rattle.re_lower.proofs.cholesky.chol_bands.Given as goal

abbrev pub invariant-loop-r : goal.invariant-loop-r
invariant-loop-r l = (l.r ≤ l.n) × (l.from ≡ start triangle l.r) × (length l.t ≡ length l.initial.t) × (l.t ≡ store 0 (rows_to l.initial.t l.r) l.initial.t) × (pivots ieee (radicand ieee (lower l.initial.t)) l.r ≡ none) × (l.base ≤ l.r) × (length l.x ≡ length l.initial.x) × BandReady l.initial.t l.x l.base l.n

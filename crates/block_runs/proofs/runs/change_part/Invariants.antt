-- `block_runs::runs::change_part`: the first i doubles are changed.
use Rattle.std.proofs.Common.{◌≡◌, ◌+◌, ◌<◌, ℕ}
use lib.Ieee.{Float}
use Rattle.storage.proofs.Filling.{Filling}
use Rattle.block_runs.specs.axpy.Axpy.{at}
use Rattle.block_runs.proofs.runs.change_part.Given as goal

abbrev pub invariant-loop-i : goal.invariant-loop-i
invariant-loop-i g l = (h : ℕ → Float → Float) → ((i : ℕ) (x r : Float) → i < l.n → goal.F-post g l.f i x r → r ≡ h i x)
    → Filling (λ i. h i (at l.initial.t (l.to + i))) l.to l.n l.initial.t l.t l.i

-- `block_places::row_map::block_starts`: the first t starts.
use Prim.Native.Nat.{ℕ, ◌≤◌, ◌<◌, ◌+◌, ◌*◌}
use mathlib.Core.Path.{◌≡◌}
use lib.ListN.{length, get_or}
use Rattle.layout.specs.Shapes.{loaded_at}
use Rattle.block_places.proofs.row_map.block_starts.Given as goal

abbrev pub invariant-loop-t : goal.invariant-loop-t
invariant-loop-t l = (length l.at ≡ 81) × ((s : ℕ) → s < l.t → (i j : ℕ) → s ≡ i * 9 + j → j ≤ i → i ≤ l.layout.k → get_or l.at s 0 ≡ loaded_at l.layout i j)

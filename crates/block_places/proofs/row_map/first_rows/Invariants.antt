-- `block_places::row_map::first_rows`: the first j starts.
use Prim.Native.Nat.{ℕ, ◌≤◌, ◌<◌}
use mathlib.Core.Path.{◌≡◌}
use lib.ListN.{length, get_or}
use Rattle.workspace.specs.Loaded.{row_start}
use Rattle.block_places.proofs.row_map.first_rows.Given as goal

abbrev pub invariant-loop-j : goal.invariant-loop-j
invariant-loop-j l = (l.layout.k ≤ 8) × (length l.first ≡ 8) × ((s : ℕ) → s < l.j → get_or l.first s 0 ≡ row_start l.layout s)

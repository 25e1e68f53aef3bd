-- `block_places::row_map::Map::block_of`: among the first j sorted blocks.
use Prim.Native.Nat.{◌≤◌}
use mathlib.Core.Path.{◌≡◌}
use Rattle.block_places.specs.sheet_rows.Blocks.{block_of_row}
use Rattle.block_places.proofs.row_map.Map.block_of.Given as goal

abbrev pub invariant-loop-j : goal.invariant-loop-j
invariant-loop-j l = (l.self.layout.k ≤ 8) × (l.block ≡ block_of_row l.self.layout l.j l.x)

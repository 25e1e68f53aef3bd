-- `block_places::row_map::Map::level_of`: counted from the block's first row.
use native.Mathlib.Omega.{arith}
use Rattle.heading_format.proofs.Valid.{is_valid}
use Rattle.block_places.proofs.row_map.Map.level_of.Goals as goal

pub offset_bounds-self-j : goal.offset_bounds-self-j
offset_bounds-self-j c = let m = c.args.self.now in omega (arith, (is_valid m.layout m.valid).blocks.1)

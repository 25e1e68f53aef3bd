-- `block_places::row_map::Map::start_of`: as the list has it.
use native.Mathlib.Omega.{arith}
use Rattle.heading_format.proofs.Valid.{is_valid}
use Rattle.block_places.proofs.Placing.{loaded_low}
use Rattle.block_places.proofs.row_map.Map.start_of.Goals as goal

pub overflow_mul-result : goal.overflow_mul-result
overflow_mul-result c = let m = c.args.self.now in omega (arith, (is_valid m.layout m.valid).blocks.1)

pub overflow_add-result : goal.overflow_add-result
overflow_add-result c = let m = c.args.self.now in omega (arith, (is_valid m.layout m.valid).blocks.1)

pub offset_bounds-self-i : goal.offset_bounds-self-i
offset_bounds-self-i c = let m = c.args.self.now in omega (arith, (is_valid m.layout m.valid).blocks.1)

pub bounds-self-i : goal.bounds-self-i
bounds-self-i c = let m = c.args.self.now in omega (arith, (is_valid m.layout m.valid).blocks.1)

pub returns : goal.returns
returns c = let m = c.args.self.now in
    let e = m.starts c.args.i c.args.j c.requires.0 c.requires.1 in
    (e, omega (arith, e, loaded_low m.layout m.valid c.args.i c.args.j c.requires.0 c.requires.1))

-- `replace_response::write_rows::row_of`: the map has it.
use native.Mathlib.Omega.{arith}
use Rattle.replace_response.proofs.write_rows.Cells.{few_blocks}
use Rattle.replace_response.proofs.write_rows.row_of.Goals as goal

pub offset_bounds-map-j : goal.offset_bounds-map-j
offset_bounds-map-j c = let b = few_blocks c.args.map.now.layout c.args.map.now.valid in omega arith

pub bounds-map-j : goal.bounds-map-j
bounds-map-j c = let b = few_blocks c.args.map.now.layout c.args.map.now.valid in omega arith

pub returns : goal.returns
returns c = c.args.map.now.rows c.args.j c.requires

-- `replace_response::write_rows::write_block`: one strided copy.
use native.Mathlib.Omega.{arith}
use Rattle.replace_response.proofs.write_rows.Cells.{few_blocks, first_within, block_fits, block_written}
use Rattle.replace_response.proofs.write_rows.write_block.Goals as goal

pub overflow_add-to : goal.overflow_add-to
overflow_add-to c = omega (arith, first_within c.args.map.now.layout c.args.map.now.valid c.args.j c.requires.0, c.start_of.ensures)

pub levels_of-n-requires : goal.levels_of-n-requires
levels_of-n-requires c = omega (arith, few_blocks c.args.map.now.layout c.args.map.now.valid)

pub spread-requires : goal.spread-requires
spread-requires c = block_fits c.args.map.now.layout c.args.map.now.valid _ _ c.requires.1 c.args.j _ _ _ c.requires.0 c.start_of.ensures c.levels_of-n.ensures c.row_of-first.ensures c.last_rows-rows.ensures.0 c.requires.2

pub returns : goal.returns
returns c = block_written c.args.map.now.layout c.args.map.now.valid _ _ c.requires.1 c.args.j _ _ 0 c.requires.0 c.start_of.ensures c.levels_of-n.ensures c.row_of-first.ensures c.last_rows-rows.ensures.0 _ _ _ c.spread.ensures

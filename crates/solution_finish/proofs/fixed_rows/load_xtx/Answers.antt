-- `solution_finish::fixed_rows::load_xtx`: two copies.
use native.Mathlib.Omega.{arith}
use Rattle.solution_vectors.proofs.result_places.Bounds.{few_effects}
use Rattle.solution_finish.proofs.fixed_rows.Rows.{copies_room, all_loaded}
use Rattle.solution_finish.proofs.fixed_rows.load_xtx.Goals as goal

pub loaded_at-from-requires : goal.loaded_at-from-requires
loaded_at-from-requires c = (c.args.lent.fits.valid, omega arith, omega arith)

pub row_start-n-requires : goal.row_start-n-requires
row_start-n-requires c = omega (arith, few_effects c.args.lent.layout c.args.lent.fits.valid)

pub l_x_at-requires : goal.l_x_at-requires
l_x_at-requires c = c.args.lent.fits.valid

pub copy-requires : goal.copy-requires
copy-requires c = let g = c.args in
    omega (arith, copies_room g.lent.heading.now g.lent.doubles.now g.lent.layout c.args.lent.fits g.v.now c.loaded_at-from.result c.row_start-n.result c.l_x_at.result c.requires.long c.requires.solved c.loaded_at-from.ensures c.row_start-n.ensures c.l_x_at.ensures)

pub overflow_add-from : goal.overflow_add-from
overflow_add-from c = let g = c.args in
    omega (arith, copies_room g.lent.heading.now g.lent.doubles.now g.lent.layout c.args.lent.fits g.v.now c.loaded_at-from.result c.row_start-n.result c.l_x_at.result c.requires.long c.requires.solved c.loaded_at-from.ensures c.row_start-n.ensures c.l_x_at.ensures)

pub copy-requires-2 : goal.copy-requires-2
copy-requires-2 c = let g = c.args in
    omega (arith, copies_room g.lent.heading.now g.lent.doubles.now g.lent.layout c.args.lent.fits g.v.now c.loaded_at-from.result c.row_start-n.result c.l_x_at.result c.requires.long c.requires.solved c.loaded_at-from.ensures c.row_start-n.ensures c.l_x_at.ensures)

pub returns : goal.returns
returns c = let g = c.args in
    all_loaded g.lent.heading.now g.lent.doubles.now g.lent.layout c.args.lent.fits g.v.now c.loaded_at-from.result c.row_start-n.result c.l_x_at.result c.requires.long c.requires.solved c.loaded_at-from.ensures c.row_start-n.ensures c.l_x_at.ensures _ _ c.copy.ensures c.copy-2.ensures

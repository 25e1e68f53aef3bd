-- `solution_finish::xtx_minus_vtw::subtract_row`: v of the row, then two products.
use native.Mathlib.Omega.{arith}
use Rattle.storage.specs.Runs.{triangle}
use Rattle.storage.proofs.Starts.{start_below}
use Rattle.solution_vectors.proofs.result_places.Bounds.{few_effects}
use Rattle.solution_finish.proofs.fixed_rows.Rows.{row_asks, right_asks, row_more}
use Rattle.solution_finish.proofs.xtx_minus_vtw.Vectors.{vector, vector_length, vector_is}
use Rattle.solution_finish.proofs.xtx_minus_vtw.subtract_row.Goals as goal

pub l_x_at-requires : goal.l_x_at-requires
l_x_at-requires c = c.args.lent.fits.valid

pub row_start-requires : goal.row_start-requires
row_start-requires c = omega (arith, few_effects c.args.lent.layout c.args.lent.fits.valid)

pub overflow_add-row : goal.overflow_add-row
overflow_add-row c = omega (arith, start_below triangle c.args.i c.args.lent.layout.p c.requires.0)

pub w_at-requires : goal.w_at-requires
w_at-requires c = (c.args.lent.fits.valid, omega arith)

pub w_at-response-requires : goal.w_at-response-requires
w_at-response-requires c = (c.args.lent.fits.valid, omega arith)

pub matvec_t_sub_own-requires : goal.matvec_t_sub_own-requires
matvec_t_sub_own-requires c = let g = c.args in
    row_asks g.lent.heading.now g.lent.doubles.now g.lent.layout c.args.lent.fits g.i g.v.now _ c.requires.1 c.requires.0 (vector g.lent.heading.now g.lent.doubles.now g.lent.layout g.i) (vector_length g.lent.heading.now g.lent.doubles.now g.lent.layout c.args.lent.fits g.i) c.scale_row.ensures
    c.l_x_at.result c.row_start.result c.w_at.result c.w_at-response.result c.l_x_at.ensures c.row_start.ensures c.w_at.ensures c.w_at-response.ensures

pub matvec_t_sub_own-requires-2 : goal.matvec_t_sub_own-requires-2
matvec_t_sub_own-requires-2 c = let g = c.args in
    right_asks g.lent.heading.now g.lent.doubles.now g.lent.layout c.args.lent.fits g.i g.v.now _ c.requires.1 c.requires.0 (vector g.lent.heading.now g.lent.doubles.now g.lent.layout g.i) (vector_length g.lent.heading.now g.lent.doubles.now g.lent.layout c.args.lent.fits g.i) c.scale_row.ensures
    c.l_x_at.result c.row_start.result c.w_at.result c.w_at-response.result c.l_x_at.ensures c.row_start.ensures c.w_at.ensures c.w_at-response.ensures _ c.matvec_t_sub_own.ensures

pub returns : goal.returns
returns c = let g = c.args in
    row_more g.lent.heading.now g.lent.doubles.now g.lent.layout c.args.lent.fits g.i g.v.now _ c.requires.1 c.requires.0 (vector g.lent.heading.now g.lent.doubles.now g.lent.layout g.i) (vector_length g.lent.heading.now g.lent.doubles.now g.lent.layout c.args.lent.fits g.i) c.scale_row.ensures
    c.l_x_at.result c.row_start.result c.w_at.result c.w_at-response.result c.l_x_at.ensures c.row_start.ensures c.w_at.ensures c.w_at-response.ensures _ c.matvec_t_sub_own.ensures _ c.matvec_t_sub_own-2.ensures (vector_is g.lent.heading.now g.lent.doubles.now g.lent.layout c.args.lent.fits g.i)

-- `solution_finish::xtx_minus_vtw::subtract_response`: v of the response, then its product.
use mathlib.Core.Path.{ap}
use native.Mathlib.Omega.{arith}
use Rattle.rules.specs.Arithmetic.{ieee}
use Rattle.block_runs.specs.axpy.Axpy.{at}
use Rattle.solution_vectors.proofs.result_places.Bounds.{few_effects}
use Rattle.solution_vectors.proofs.result_places.Parts.{solved_inside}
use Rattle.solution_finish.proofs.fixed_rows.Rows.{last_room, all_made}
use Rattle.solution_finish.proofs.xtx_minus_vtw.Vectors.{vector, vector_length, vector_is}
use Prim.Native.Nat.{◌+◌}
use Rattle.solution_finish.proofs.xtx_minus_vtw.subtract_response.Goals as goal

pub w_at-response-requires : goal.w_at-response-requires
w_at-response-requires c = (c.args.lent.fits.valid, omega arith)

pub loaded_at-requires : goal.loaded_at-requires
loaded_at-requires c = (c.args.lent.fits.valid, omega arith, omega arith)

pub row_start-requires : goal.row_start-requires
row_start-requires c = omega (arith, few_effects c.args.lent.layout c.args.lent.fits.valid)

pub overflow_add-last : goal.overflow_add-last
overflow_add-last c = omega (arith, last_room c.args.lent.heading.now c.args.lent.doubles.now c.args.lent.layout c.args.lent.fits)

pub overflow_add-last-2 : goal.overflow_add-last-2
overflow_add-last-2 c = omega (arith, last_room c.args.lent.heading.now c.args.lent.doubles.now c.args.lent.layout c.args.lent.fits)

pub offset_bounds-lent-last : goal.offset_bounds-lent-last
offset_bounds-lent-last c = omega (arith, last_room c.args.lent.heading.now c.args.lent.doubles.now c.args.lent.layout c.args.lent.fits)

pub bounds-lent-last : goal.bounds-lent-last
bounds-lent-last c = omega (arith, last_room c.args.lent.heading.now c.args.lent.doubles.now c.args.lent.layout c.args.lent.fits)

pub one-requires : goal.one-requires
one-requires c = omega (arith, solved_inside c.args.lent.layout c.args.lent.layout.p (omega arith))

pub returns : goal.returns
returns c = let g = c.args in
    let k = c.loaded_at.result + c.row_start.result + g.lent.layout.p in
    all_made g.lent.heading.now g.lent.doubles.now g.lent.layout c.args.lent.fits g.v.now _ c.requires (vector g.lent.heading.now g.lent.doubles.now g.lent.layout g.lent.layout.p) (vector_length g.lent.heading.now g.lent.doubles.now g.lent.layout c.args.lent.fits g.lent.layout.p) c.scale_row.ensures (vector_is g.lent.heading.now g.lent.doubles.now g.lent.layout c.args.lent.fits g.lent.layout.p)
    k c.w_at-response.result (omega arith) c.w_at-response.ensures _ (ap (ieee.minus (at g.lent.doubles.now k)) c.one.ensures)

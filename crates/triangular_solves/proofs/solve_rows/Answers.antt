use native.Mathlib.Omega.{arith}
use Rattle.triangular_solves.proofs.scaled_row.Scaled.{row_sized}
use Rattle.triangular_solves.proofs.Rows.{rows_room, rows_more, rows_all}
use Rattle.triangular_solves.proofs.solve_rows.Goals as goal

pub loop-r-init : goal.loop-r-init
loop-r-init c = let p = c.requires in (record { within = omega arith; long = p.2; solved = p.3 }, p.0)

pub w_at-at-requires : goal.w_at-at-requires
w_at-at-requires c = (c.args.lent.fits.valid, omega arith)

pub scale_row-requires : goal.scale_row-requires
scale_row-requires c = (omega arith, rows_room c.loop-r.invariant.0 (omega arith) c.w_at-at.ensures)

pub backsolve_a_inv-requires : goal.backsolve_a_inv-requires
backsolve_a_inv-requires c = omega (arith, rows_room c.loop-r.invariant.0 (omega arith) c.w_at-at.ensures)

pub loop-r-preserved : goal.loop-r-preserved
loop-r-preserved c = (rows_more c.args.lent.fits.same c.args.lent.fits.valid c.loop-r.invariant.0 (omega arith) _ c.w_at-at.ensures (row_sized _ c.args.lent.doubles.now _ c.args.lent.fits _) c.scale_row.ensures c.backsolve_a_inv.ensures, omega arith)

pub returns : goal.returns
returns c = rows_all c.loop-r.invariant.0 (omega arith)

-- `triangular_solves::block_solves::backward_in`: a diagonal, or a triangle.
use mathlib.Core.Path.{refl, sym, ◌∙◌}
use native.Mathlib.Omega.{arith}
use Rattle.profile.specs.Solves.{backward_in}
use Rattle.block_places.proofs.sheet_rows.AllRows.{rows_within}
use Rattle.triangular_solves.proofs.block_solves.Within.{divide_ready, solve_ready, solved_by}
use Rattle.triangular_solves.proofs.block_solves.backward_in.Goals as goal

pub first_row-requires : goal.first_row-requires
first_row-requires c = let a = c.args in
    (c.args.lent.fits.valid, omega arith)

pub overflow_add-z : goal.overflow_add-z
overflow_add-z c = let a = c.args in
    record { fits = omega (arith, c.first_row.ensures, rows_within a.lent.layout c.args.lent.fits.valid a.i (omega arith)) }

pub block-b-requires : goal.block-b-requires
block-b-requires c = let a = c.args in
    (c.args.lent.fits.valid, omega arith, omega arith)

pub divide-requires : goal.divide-requires
divide-requires c = let a = c.args in
    rw c.block-b.ensures (divide_ready a.lent.heading.now a.lent.doubles.now a.lent.layout c.args.lent.fits a.i c.requires.0 a.from _ c.first_row.ensures (sym c.factor_kind.ensures ∙ c.in-Diagonal.is) _ c.requires.1)

pub backward-requires : goal.backward-requires
backward-requires c = let a = c.args in
    rw c.block-b.ensures (solve_ready a.lent.heading.now a.lent.doubles.now a.lent.layout c.args.lent.fits a.i c.requires.0 a.from _ c.first_row.ensures (sym c.factor_kind.ensures ∙ c.in-Packed.is) refl _ c.requires.1)

pub returns-in-Diagonal : goal.returns-in-Diagonal
returns-in-Diagonal c = let a = c.args in
    solved_by a.lent.heading.now a.lent.doubles.now a.lent.layout c.args.lent.fits a.i c.requires.0 a.from _ c.first_row.ensures (sym c.factor_kind.ensures ∙ c.in-Diagonal.is) backward_in a.v.now (rw c.block-b.ensures at c.divide.ensures)

pub returns-in-Packed : goal.returns-in-Packed
returns-in-Packed c = let a = c.args in
    solved_by a.lent.heading.now a.lent.doubles.now a.lent.layout c.args.lent.fits a.i c.requires.0 a.from _ c.first_row.ensures (sym c.factor_kind.ensures ∙ c.in-Packed.is) backward_in a.v.now (rw c.block-b.ensures at c.backward.ensures)

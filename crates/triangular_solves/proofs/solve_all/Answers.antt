-- `triangular_solves::solve_all`: the rows of X, then the response's.
use native.Mathlib.Omega.{arith}
use Rattle.triangular_solves.proofs.solve_all.Goals as goal

pub solve_rows-requires : goal.solve_rows-requires
solve_rows-requires c = (omega arith, omega arith, c.requires, λ r l. absurd (omega arith))

pub solve_rows-requires-2 : goal.solve_rows-requires-2
solve_rows-requires-2 c = (omega arith, omega arith, omega (arith, c.requires), c.solve_rows.ensures)

pub returns : goal.returns
returns c = c.solve_rows-2.ensures

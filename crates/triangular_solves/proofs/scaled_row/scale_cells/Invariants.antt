-- `triangular_solves::scaled_row::scale_cells`: the first c cells are written, and `column` is the start of column c.
use Prim.Native.Nat.{◌+◌}
use mathlib.Core.Path.{◌≡◌}
use Rattle.storage.specs.Runs.{start, dense}
use Rattle.storage.specs.Placed.{as_columns, read}
use Rattle.storage.proofs.Filling.{Filling}
use Rattle.rules.specs.Arithmetic.{ieee}
use Rattle.rules.specs.Begin.{fixed_cell}
use Rattle.triangular_solves.proofs.scaled_row.scale_cells.Given as goal

abbrev pub invariant-loop-c : goal.invariant-loop-c
invariant-loop-c l = Filling (λ x. fixed_cell ieee l.theta (read (as_columns l.a) l.doubles l.r x)) l.to l.a.cols l.initial.v l.v l.c × (l.column ≡ l.a.at + start (dense l.a.rows) l.c)

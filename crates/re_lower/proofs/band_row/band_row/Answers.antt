-- `re_lower::band_row::band_row`: what the band has of the row is its first cells, solved; the rest follows.
use mathlib.Core.Path.{◌∙◌}
use native.Mathlib.Omega.{arith}
use Rattle.storage.specs.Runs.{triangle}
use Rattle.storage.proofs.Starts.{start_triangle, start_le}
use Rattle.re_lower.proofs.Back.{start_half}
use Rattle.re_lower.proofs.Band.{row_back}
use Rattle.re_lower.proofs.band_row.band_row.Goals as goal

pub put_row-requires : goal.put_row-requires
put_row-requires c = ((λ h. omega (arith, c.requires.3 h)), omega arith, omega arith)

pub overflow_mul-base : goal.overflow_mul-base
overflow_mul-base c = let a = c.args in
    omega (arith, start_triangle a.base, start_le triangle a.base a.r (omega arith))

pub row_left_of_pivot-requires : goal.row_left_of_pivot-requires
row_left_of_pivot-requires c = let a = c.args in
    (c.requires.0, omega arith, start_half a.base, omega arith)

pub returns : goal.returns
returns c = let a = c.args in
    c.row_left_of_pivot.ensures a.t.now (omega arith) (c.put_row.ensures ∙ row_back a.t.now a.x.now a.from a.base a.r c.requires.5)

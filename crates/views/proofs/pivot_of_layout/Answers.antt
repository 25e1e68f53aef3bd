-- `views::pivot_of_layout`: no block, no row, or a pivot.
use Rattle.views.proofs.Looks.{no_block, no_row, a_pivot}
use Rattle.views.proofs.pivot_of_layout.Goals as goal

pub returns-then-r-rows_of : goal.returns-then-r-rows_of
returns-then-r-rows_of c = let a = c.args in a_pivot a.layout a.doubles.now a.j a.r c.if-j-layout.true _ c.rows_of.ensures c.if-r-rows_of.true _ c.read_pivot.ensures

pub returns-else-r-rows_of : goal.returns-else-r-rows_of
returns-else-r-rows_of c = let a = c.args in no_row a.layout a.doubles.now a.j a.r c.if-j-layout.true _ c.rows_of.ensures c.if-r-rows_of.false

pub returns-else-j-layout : goal.returns-else-j-layout
returns-else-j-layout c = let a = c.args in no_block a.layout a.doubles.now a.j a.r c.if-j-layout.false

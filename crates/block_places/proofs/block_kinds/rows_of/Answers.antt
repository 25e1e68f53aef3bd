-- `block_places::block_kinds::rows_of`: block k, or one of the levels.
use mathlib.Core.Path.{sym, ◌∙◌}
use native.Mathlib.Omega.{arith}
use Rattle.block_places.proofs.block_sizes.Sizes.{below, few_blocks}
use Rattle.block_places.proofs.block_kinds.Shapes.{rows_last, rows_level}
use Rattle.block_places.proofs.block_kinds.rows_of.Goals as goal

pub returns-then-i-layout : goal.returns-then-i-layout
returns-then-i-layout c = c.last_rows.ensures.0 ∙ sym (rows_last c.args.layout c.args.i c.if-i-layout.true)

pub offset_bounds-layout-t : goal.offset_bounds-layout-t
offset_bounds-layout-t c = omega (arith, few_blocks c.args.layout c.requires.0)

pub bounds-layout-t : goal.bounds-layout-t
bounds-layout-t c = omega (arith, few_blocks c.args.layout c.requires.0, below c.args.i c.args.layout.k c.requires.1 c.if-i-layout.false)

pub returns : goal.returns
returns c = sym (rows_level c.args.layout c.args.i (below c.args.i c.args.layout.k c.requires.1 c.if-i-layout.false))

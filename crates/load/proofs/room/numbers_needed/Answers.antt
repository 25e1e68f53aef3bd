-- `load::room::numbers_needed`: with a sparse pair one more for each column.
use native.Mathlib.Omega.{arith}
use Rattle.load.proofs.room.Outcomes.{first_levels, numbers_sparse, numbers_dense}
use Rattle.load.proofs.room.numbers_needed.Goals as goal

pub overflow_add-result : goal.overflow_add-result
overflow_add-result c = omega (arith, first_levels c.args.layout c.requires)

pub returns-then-layout : goal.returns-then-layout
returns-then-layout c = numbers_sparse c.args.layout c.if-layout.true

pub returns : goal.returns
returns c = numbers_dense c.args.layout c.if-layout.false

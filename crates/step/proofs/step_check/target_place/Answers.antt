-- `step::step_check::target_place`: the targets of the rows above it, and its own column.
use native.Mathlib.Omega.{arith}
use Rattle.step.proofs.step_check.Laws.{row_product, place_at}
use Rattle.step.proofs.step_check.target_place.Goals as goal

pub overflow_mul-result : goal.overflow_mul-result
overflow_mul-result c = let a = c.args in omega (arith, row_product a.i c.requires.1)

pub overflow_add-result-2 : goal.overflow_add-result-2
overflow_add-result-2 c = let a = c.args in omega (arith, row_product a.i c.requires.1)

pub returns : goal.returns
returns c = place_at c.args.i c.args.j c.requires.0 c.requires.1

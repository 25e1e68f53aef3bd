-- `solution_vectors::result_places::l_x_at`: the sum.
use native.Mathlib.Omega.{arith}
use Rattle.solution_vectors.proofs.result_places.Bounds.{few_effects, few_rows}
use Rattle.solution_vectors.proofs.result_places.l_x_at.Goals as goal

pub overflow_add-result : goal.overflow_add-result
overflow_add-result c = omega (arith, few_effects c.args.layout c.requires, few_rows c.args.layout c.requires)

pub overflow_add-result-2 : goal.overflow_add-result-2
overflow_add-result-2 c = omega (arith, few_effects c.args.layout c.requires, few_rows c.args.layout c.requires)

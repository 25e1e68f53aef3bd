-- `solution_vectors::result_places::result_length`: the sum.
use native.Mathlib.Omega.{arith}
use Rattle.solution_vectors.proofs.result_places.Bounds.{few_effects, few_rows, few_cells, few_products}
use Rattle.solution_vectors.proofs.result_places.result_length.Goals as goal

pub row_start-requires : goal.row_start-requires
row_start-requires c = omega (arith, few_effects c.args.layout c.requires)

pub overflow_add-result : goal.overflow_add-result
overflow_add-result c = omega (arith, few_effects c.args.layout c.requires, few_rows c.args.layout c.requires, few_cells c.args.layout c.requires, c.l_x_at.ensures, c.row_start.ensures)

pub overflow_add-result-2 : goal.overflow_add-result-2
overflow_add-result-2 c = omega (arith, few_effects c.args.layout c.requires, few_rows c.args.layout c.requires, few_cells c.args.layout c.requires, c.l_x_at.ensures, c.row_start.ensures)

pub overflow_mul-result : goal.overflow_mul-result
overflow_mul-result c = omega (arith, few_products c.args.layout c.requires c.args.layout.p (omega arith))

pub overflow_add-result-3 : goal.overflow_add-result-3
overflow_add-result-3 c = omega (arith, few_effects c.args.layout c.requires, few_rows c.args.layout c.requires, few_cells c.args.layout c.requires, c.l_x_at.ensures, c.row_start.ensures, few_products c.args.layout c.requires c.args.layout.p (omega arith))

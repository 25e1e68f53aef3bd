-- `solution_vectors::result_places::w_at`: the sum.
use native.Mathlib.Omega.{arith}
use Rattle.solution_vectors.proofs.result_places.Bounds.{few_effects, few_rows, few_cells, few_products, at_response, at_column}
use Rattle.solution_vectors.proofs.result_places.w_at.Goals as goal

pub row_start-requires : goal.row_start-requires
row_start-requires c = omega (arith, few_effects c.args.layout c.requires.0)

pub overflow_add-response : goal.overflow_add-response
overflow_add-response c = omega (arith, few_effects c.args.layout c.requires.0, few_rows c.args.layout c.requires.0, few_cells c.args.layout c.requires.0, c.l_x_at.ensures, c.row_start.ensures)

pub returns-then-r-p : goal.returns-then-r-p
returns-then-r-p c = at_response c.args.layout c.args.r _ _ c.l_x_at.ensures c.row_start.ensures c.if-r-p.true

pub overflow_add-result : goal.overflow_add-result
overflow_add-result c = omega (arith, few_effects c.args.layout c.requires.0, few_rows c.args.layout c.requires.0, few_cells c.args.layout c.requires.0, c.l_x_at.ensures, c.row_start.ensures)

pub overflow_mul-result : goal.overflow_mul-result
overflow_mul-result c = omega (arith, few_products c.args.layout c.requires.0 c.args.r c.requires.1)

pub overflow_add-result-2 : goal.overflow_add-result-2
overflow_add-result-2 c = omega (arith, few_effects c.args.layout c.requires.0, few_rows c.args.layout c.requires.0, few_cells c.args.layout c.requires.0, c.l_x_at.ensures, c.row_start.ensures, few_products c.args.layout c.requires.0 c.args.r c.requires.1)

pub returns : goal.returns
returns c = at_column c.args.layout c.args.r _ _ c.l_x_at.ensures c.row_start.ensures c.if-r-p.false

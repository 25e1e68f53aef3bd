-- `heading_check::stage_check::targets_before`: half a product.
use native.Mathlib.Omega.{arith}
use Rattle.heading_check.proofs.stage_check.Stages.{row_product, rows_before}
use Rattle.heading_check.proofs.stage_check.targets_before.Goals as goal

pub overflow_mul-result : goal.overflow_mul-result
overflow_mul-result c = record { fits = omega (arith, row_product c.args.i c.requires) }

pub returns : goal.returns
returns c = rows_before c.args.i c.requires

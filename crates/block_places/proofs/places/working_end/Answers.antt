-- `block_places::places::working_end`: one past the sum, which is small.
use native.Mathlib.Omega.{arith}
use Rattle.block_places.proofs.block_sizes.Sizes.{doubles_small}
use Rattle.block_places.proofs.places.working_end.Goals as goal

pub overflow_add-result : goal.overflow_add-result
overflow_add-result c = omega (arith, doubles_small c.args.layout c.requires, c.sum_at.ensures)

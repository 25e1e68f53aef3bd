-- `block_places::block_kinds::last_rows`: there are few fixed effects.
use mathlib.Core.Path.{refl}
use native.Mathlib.Omega.{arith}
use Rattle.block_places.proofs.block_sizes.Sizes.{few_effects}
use Rattle.block_places.proofs.block_kinds.last_rows.Goals as goal

pub overflow_add-result : goal.overflow_add-result
overflow_add-result c = omega (arith, few_effects c.args.layout c.requires)

pub returns : goal.returns
returns c = (refl, omega (arith, few_effects c.args.layout c.requires))

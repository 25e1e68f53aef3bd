-- `begin::scaled_blocks::theta_of`: theta of the block's sheet index.
use native.Mathlib.Omega.{arith}
use lib.Ieee.{nan}
use Rattle.rules.specs.Arithmetic.{ieee}
use Rattle.block_places.proofs.block_sizes.Sizes.{few_blocks}
use Rattle.heading_format.proofs.Sorted.{order_below}
use Rattle.storage.proofs.Cells.{any_default}
use Rattle.begin.proofs.scaled_blocks.theta_of.Goals as goal

pub bounds-layout-j : goal.bounds-layout-j
bounds-layout-j c = omega (arith, few_blocks c.args.layout c.requires.0)

pub offset_bounds-theta-sheet : goal.offset_bounds-theta-sheet
offset_bounds-theta-sheet c = omega (arith, order_below c.args.layout c.requires.0 c.args.j c.requires.2, few_blocks c.args.layout c.requires.0)

pub bounds-theta-sheet : goal.bounds-theta-sheet
bounds-theta-sheet c = omega (arith, order_below c.args.layout c.requires.0 c.args.j c.requires.2, c.requires.1)

pub returns : goal.returns
returns c = any_default c.args.theta.now _ nan ieee.zero (omega (arith, order_below c.args.layout c.requires.0 c.args.j c.requires.2, c.requires.1))

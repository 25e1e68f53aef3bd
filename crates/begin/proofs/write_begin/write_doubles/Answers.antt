-- `begin::write_begin::write_doubles`: theta, the blocks, the sum.
use mathlib.Core.Path.{refl}
use native.Mathlib.Omega.{arith}
use lib.ListN.{length-set}
use Rattle.block_places.proofs.block_sizes.Sizes.{doubles_small}
use Rattle.layout.proofs.Places.{theta_inside}
use Rattle.begin.proofs.write_begin.Stored.{theta_stored, doubles_begun}
use borrow.Author.Rules.{rules}
use Rattle.begin.proofs.write_begin.write_doubles.Goals as goal

pub copy-requires : goal.copy-requires
copy-requires c = (omega (arith, c.requires.1, c.requires.0.room, c.theta_at-at.ensures, theta_inside c.args.layout), omega arith)

pub offset_bounds-doubles-sum : goal.offset_bounds-doubles-sum
offset_bounds-doubles-sum c = omega (arith, c.requires.0.room, c.theta_at-at.ensures, c.sum_at-sum.ensures, theta_inside c.args.layout, doubles_small c.args.layout c.requires.0.valid)

pub bounds-doubles-sum : goal.bounds-doubles-sum
bounds-doubles-sum c = omega (arith, c.requires.0.room, c.theta_at-at.ensures, c.sum_at-sum.ensures, theta_inside c.args.layout, doubles_small c.args.layout c.requires.0.valid)

pub shape_of-doubles : goal.shape_of-doubles
shape_of-doubles c = simp length-set (omega arith)

pub returns : goal.returns
returns c = doubles_begun c.args.layout c.args.theta.now c.args.doubles.now _ _ _ _ c.theta_at-at.ensures c.sum_at-sum.ensures
    (theta_stored c.args.theta.now c.args.doubles.now _ _ _ refl c.copy.ensures) c.init_blocks.ensures (search rules)

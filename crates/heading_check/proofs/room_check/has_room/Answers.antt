-- `heading_check::room_check::has_room`: a sparse pair or none.
use Rattle.heading_check.proofs.room_check.Asked.{room_dense, room_sparse, room_short, level_most}
use native.Mathlib.Omega.{arith}
use borrow.Author.Rules.{rules}
use Rattle.heading_check.proofs.room_check.has_room.Goals as goal

pub overflow_add-cols : goal.overflow_add-cols
overflow_add-cols c = record { fits = omega (arith, level_most c.args.layout c.requires c.if-layout.true, c.level-cols.ensures) }

pub rows_below-requires : goal.rows_below-requires
rows_below-requires c = (search rules, omega (arith, level_most c.args.layout c.requires c.if-layout.true, c.level.ensures))

pub returns-then-cols-heading : goal.returns-then-cols-heading
returns-then-cols-heading c = search room_sparse

pub returns-then-layout : goal.returns-then-layout
returns-then-layout c = search room_short

pub returns : goal.returns
returns c = search room_dense

-- `deviance::deviance_tail::last_pivot`: the corner of block k.
use native.Mathlib.Omega.{arith}
use Rattle.deviance.proofs.deviance_tail.Tails.{few_effects, last_place, pivot_read}
use Rattle.deviance.proofs.deviance_tail.last_pivot.Goals as goal

pub row_start-requires : goal.row_start-requires
row_start-requires c = omega (arith, few_effects c.args.layout _ c.requires.valid c.requires.room)

pub overflow_add-result : goal.overflow_add-result
overflow_add-result c = record { fits = omega (arith, (last_place c.args.layout _ c.requires.valid c.requires.room _ _ c.working_at.ensures c.row_start.ensures).1) }

pub overflow_add-result-2 : goal.overflow_add-result-2
overflow_add-result-2 c = record { fits = omega (arith, (last_place c.args.layout _ c.requires.valid c.requires.room _ _ c.working_at.ensures c.row_start.ensures).1) }

pub offset_bounds-doubles-working_at : goal.offset_bounds-doubles-working_at
offset_bounds-doubles-working_at c = record { fits = omega (arith, (last_place c.args.layout _ c.requires.valid c.requires.room _ _ c.working_at.ensures c.row_start.ensures).1) }

pub bounds-doubles-working_at : goal.bounds-doubles-working_at
bounds-doubles-working_at c = (last_place c.args.layout _ c.requires.valid c.requires.room _ _ c.working_at.ensures c.row_start.ensures).0

pub returns : goal.returns
returns c = pivot_read c.args.layout c.args.doubles.now c.requires.room _ _ c.working_at.ensures c.row_start.ensures

-- `views::pivot_places::read_pivot`: the double at its place.
use native.Mathlib.Omega.{arith}
use Rattle.views.proofs.pivot_places.Places.{pivot_place, pivot_read}
use Rattle.views.proofs.pivot_places.read_pivot.Goals as goal

pub overflow_add-result : goal.overflow_add-result
overflow_add-result c = record { fits = omega (arith, (pivot_place c.args.layout _ c.requires.0.valid c.requires.0.room c.args.j c.args.r c.requires.1 c.requires.2 _ _ c.working_at.ensures c.pivot_place.ensures).1) }

pub offset_bounds-doubles-working_at : goal.offset_bounds-doubles-working_at
offset_bounds-doubles-working_at c = record { fits = omega (arith, (pivot_place c.args.layout _ c.requires.0.valid c.requires.0.room c.args.j c.args.r c.requires.1 c.requires.2 _ _ c.working_at.ensures c.pivot_place.ensures).1) }

pub bounds-doubles-working_at : goal.bounds-doubles-working_at
bounds-doubles-working_at c = (pivot_place c.args.layout _ c.requires.0.valid c.requires.0.room c.args.j c.args.r c.requires.1 c.requires.2 _ _ c.working_at.ensures c.pivot_place.ensures).0

pub returns : goal.returns
returns c = pivot_read c.args.layout c.args.doubles.now c.requires.0.room c.args.j c.args.r c.requires.1 c.requires.2 c.requires.0.valid _ _ c.working_at.ensures c.pivot_place.ensures

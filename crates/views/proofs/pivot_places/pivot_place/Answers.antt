-- `views::pivot_places::pivot_place`: by the kind of the factor.
use mathlib.Core.Path.{sym, ◌∙◌}
use native.Mathlib.Omega.{arith}
use Rattle.block_places.proofs.block_kinds.Shapes.{packed_limit}
use Rattle.views.proofs.pivot_places.Places.{start_small, in_diagonal, in_packed}
use Rattle.views.proofs.pivot_places.pivot_place.Goals as goal

pub row_start-requires : goal.row_start-requires
row_start-requires c = omega (arith, packed_limit c.args.layout c.requires.0 c.args.j c.requires.1 (sym c.factor_kind.ensures ∙ c.in-Packed.is), c.requires.2)

pub overflow_add-result : goal.overflow_add-result
overflow_add-result c = let few = packed_limit c.args.layout c.requires.0 c.args.j c.requires.1 (sym c.factor_kind.ensures ∙ c.in-Packed.is) in
    record { fits = omega (arith, few, c.requires.2, start_small c.args.r _ (omega (arith, few, c.requires.2)) c.row_start.ensures) }

pub returns-in-Diagonal : goal.returns-in-Diagonal
returns-in-Diagonal c = in_diagonal c.args.layout c.requires.0 c.args.j c.requires.1 c.args.r c.requires.2 (sym c.factor_kind.ensures ∙ c.in-Diagonal.is)

pub returns-in-Packed : goal.returns-in-Packed
returns-in-Packed c = in_packed c.args.layout c.requires.0 c.args.j c.requires.1 c.args.r c.requires.2 _ (sym c.factor_kind.ensures ∙ c.in-Packed.is) c.row_start.ensures

-- `replace_response::finite::first_infinite`: what `position` finds.
use mathlib.Core.Path.{◌∙◌}
use mathlib.Core.Bool.{not}
use Rattle.std.proofs.Common.{rules, tests}
use Rattle.std.proofs.lemmas.Iterator.{YieldsList-from_slice}
use Rattle.std.proofs.lemmas.Iterator.Search.{position_from_yields_List}
use Rattle.std.proofs.lemmas.Iterator.Adapters.{position_from-zero}
use Rattle.std.specs.Float.{float_is_finite}
use Rattle.replace_response.proofs.finite.Walk.{found}
use Rattle.replace_response.proofs.finite.first_infinite.Goals as goal

pub returns : goal.returns
returns c =
    position_from_yields_List (λ x. not (float_is_finite x)) _ _ c.position.result c.position.ensures.ran (YieldsList-from_slice _ c.iter.ensures.rest) (λ x b q k. search (rules, tests))
    ∙ position_from-zero (λ x. not (float_is_finite x)) _
    ∙ found 0 _

-- `deviance::deviance_tail::value`: from the pivots of block k.
use mathlib.Core.Path.{◌∙◌}
use native.Mathlib.Omega.{arith}
use Rattle.deviance.proofs.deviance_value.Values.{value_same}
use Rattle.deviance.proofs.deviance_tail.Tails.{few_effects, first_rows, first_pivots}
use Rattle.deviance.proofs.deviance_tail.value.Goals as goal

pub value-requires : goal.value-requires
value-requires c = (omega (arith, few_effects c.args.layout _ c.requires.valid c.requires.room), first_rows c.args.layout _ c.requires.valid c.requires.room _ c.working_at.ensures)

pub returns : goal.returns
returns c = let a = c.args in c.value.ensures
    ∙ value_same a.reml a.d a.s a.logdet a.layout.p _ _ (λ r h. first_pivots a.layout a.doubles.now _ r c.working_at.ensures h)

-- `capi::tell_answers::tell_given`: in each arm the deviance is its variant.
use mathlib.Core.Path.{refl, sym, ap, ◌∙◌}
use mathlib.Core.List.{[], ◌∷◌}
use Prim.Native.Nat.{ℕ}
use Rattle.std.specs.Prelude.{Ok}
use Rattle.profile.specs.declared.Deviance.{Deviance}
use Rattle.profile.specs.Deviance.{deviance_meaning}
use Rattle.capi.specs.Told.{told_deviance}
use Rattle.capi.proofs.Laws.{told_same, largest_word}
use Rattle.capi.proofs.tell_answers.tell_given.Goals as goal

pub returns-in-Pivot : goal.returns-in-Pivot
returns-in-Pivot c = let l = c.args.answer.now in
    c.tell-in-Pivot.ensures
    ∙ told_same l c.numbers.ensures (ap (λ (x : ℕ). 2 ∷ 0 ∷ x ∷ []) (sym largest_word))
    ∙ ap (λ (d : Deviance). told_deviance (deviance_meaning (Ok d)) l) (sym c.in-Pivot.is)

pub returns-in-NoScale : goal.returns-in-NoScale
returns-in-NoScale c = let l = c.args.answer.now in
    c.tell-in-NoScale.ensures
    ∙ told_same l refl (ap (λ (x : ℕ). 3 ∷ 0 ∷ x ∷ []) (sym largest_word))
    ∙ ap (λ (d : Deviance). told_deviance (deviance_meaning (Ok d)) l) (sym c.in-NoScale.is)

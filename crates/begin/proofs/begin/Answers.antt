-- `begin::begin`: 20, or a workspace.
use Rattle.workspace.proofs.Meaning.{outcome_means}
use mathlib.Core.Path.{sym, ◌∙◌}
use Rattle.begin.proofs.Outcome.{not_valid_heading}
use Rattle.begin.proofs.begin.Goals as goal

pub returns-then-not-is_valid_heading : goal.returns-then-not-is_valid_heading
returns-then-not-is_valid_heading c = let a = c.args in
    outcome_means _ _ _ (not_valid_heading a.heading.now a.doubles.now a.theta.now (sym c.is_valid_heading.ensures ∙ c.if-not-is_valid_heading.true))

pub begin_valid-requires : goal.begin_valid-requires
begin_valid-requires c = sym c.is_valid_heading.ensures ∙ c.if-not-is_valid_heading.false

pub returns : goal.returns
returns c = outcome_means _ _ _ c.begin_valid.ensures

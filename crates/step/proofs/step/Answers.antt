-- `step::step`: 20, or a workspace.
use Rattle.workspace.proofs.Meaning.{outcome_means}
use mathlib.Core.Path.{sym, ◌∙◌}
use Rattle.update.specs.Names.{step_of_name}
use Rattle.step.proofs.Turns.{not_valid_heading}
use Rattle.step.proofs.step.Goals as goal

pub step_valid-requires : goal.step_valid-requires
step_valid-requires c = sym c.is_valid_heading.ensures ∙ c.if-not-is_valid_heading.false

pub returns-then-not-is_valid_heading : goal.returns-then-not-is_valid_heading
returns-then-not-is_valid_heading c = let a = c.args in
    outcome_means _ _ _ (not_valid_heading a.heading.now a.doubles.now (step_of_name a.name) (sym c.is_valid_heading.ensures ∙ c.if-not-is_valid_heading.true))

pub returns : goal.returns
returns c = outcome_means _ _ _ c.step_valid.ensures

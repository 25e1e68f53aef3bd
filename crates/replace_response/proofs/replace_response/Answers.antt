-- `replace_response::replace_response`: 20, or a workspace.
use Rattle.workspace.proofs.Meaning.{outcome_means}
use mathlib.Core.Path.{sym, ◌∙◌}
use Rattle.replace_response.proofs.Replaced.{not_valid_heading}
use Rattle.workspace.specs.Response.{response}
use Rattle.replace_response.proofs.replace_response.Goals as goal

pub returns-then-not-is_valid_heading : goal.returns-then-not-is_valid_heading
returns-then-not-is_valid_heading c = let a = c.args in
    outcome_means _ _ _ (not_valid_heading a.heading.now a.doubles.now (response a.zty.now a.xty.now a.yty.now) (sym c.is_valid_heading.ensures ∙ c.if-not-is_valid_heading.true))

pub replace_valid-requires : goal.replace_valid-requires
replace_valid-requires c = sym c.is_valid_heading.ensures ∙ c.if-not-is_valid_heading.false

pub returns : goal.returns
returns c = outcome_means _ _ _ c.replace_valid.ensures

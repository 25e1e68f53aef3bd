-- `begin::begin_valid`: 13, 14, or all is written.
use mathlib.Core.Path.{sym, ap, ◌∙◌}
use Rattle.std.specs.Prelude.{Err}
use Rattle.std.proofs.lemmas.Result.{err_from_is_err_and}
use Rattle.heading_format.proofs.Fits.{fits}
use Rattle.workspace.proofs.Meaning.{answered}
use Rattle.begin.proofs.Outcome.{wrong_length, not_finite, ready, accepted}
use Rattle.begin.proofs.begin_valid.Goals as goal

pub layout-layout-requires : goal.layout-layout-requires
layout-layout-requires c = (fits c.args.heading.now _ c.requires).long

pub returns-then-theta-theta_length : goal.returns-then-theta-theta_length
returns-then-theta-theta_length c = let a = c.args in
    wrong_length a.heading.now a.doubles.now a.theta.now c.requires _ c.layout-layout.ensures (λ e. c.if-theta-theta_length.true (e ∙ sym c.theta_length.ensures))

pub returns-in_err-check_words : goal.returns-in_err-check_words
returns-in_err-check_words c = let a = c.args in
    let p = err_from_is_err_and c.from_residual.result c.from_residual.ensures.1 in
    answered (p.1 ∙ ap Err p.2) ∙ not_finite a.heading.now a.doubles.now a.theta.now c.requires _ c.layout-layout.ensures (c.if-theta-theta_length.false ∙ c.theta_length.ensures) c.in_err-check_words.ensures

pub write-requires : goal.write-requires
write-requires c = let a = c.args in
    ready a.heading.now a.doubles.now a.theta.now c.requires _ c.layout-layout.ensures (c.if-theta-theta_length.false ∙ c.theta_length.ensures)

pub returns : goal.returns
returns c = let a = c.args in
    accepted a.heading.now a.doubles.now a.theta.now c.requires _ c.layout-layout.ensures (c.if-theta-theta_length.false ∙ c.theta_length.ensures) c.in_ok-check_words.ensures _ _ c.write.ensures

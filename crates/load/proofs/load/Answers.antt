-- `load::load`: what 1 to 11 refuse is handed on, or the sheet goes on.
use mathlib.Core.Path.{sym, ap, ◌∙◌}
use Rattle.std.specs.Prelude.{Err}
use Rattle.std.proofs.lemmas.Result.{err_from_is_err_and}
use Rattle.workspace.proofs.Meaning.{outcome_means}
use Rattle.load.proofs.room.Outcomes.{left}
use Rattle.load.proofs.judge.Judging.{judged_ready, loaded_out, refused_out}
use Rattle.load.proofs.load.Goals as goal

pub returns-in_err-passed : goal.returns-in_err-passed
returns-in_err-passed c =
    let a = c.args in
    let p = err_from_is_err_and c.from_residual.result c.from_residual.ensures.1 in
    outcome_means _ _ _ (ap (λ r. left r a.heading.now a.doubles.now) (p.1 ∙ ap Err p.2) ∙ sym (refused_out a.bytes.now _ a.heading.now a.doubles.now (sym c.in_err-passed.ensures)))

pub load_judged-requires : goal.load_judged-requires
load_judged-requires c = judged_ready c.args.bytes.now _ _ (sym c.in_ok-passed.ensures)

pub returns : goal.returns
returns c = let a = c.args in
    outcome_means _ _ _ (loaded_out a.bytes.now _ _ (sym c.in_ok-passed.ensures) a.heading.now a.doubles.now _ c.load_judged.ensures)

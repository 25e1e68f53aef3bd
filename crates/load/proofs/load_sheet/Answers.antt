-- `load::load_sheet`: the gate's refusal, or past the gate.
use mathlib.Core.Path.{sym, ap, ◌∙◌}
use Rattle.std.specs.Prelude.{Err}
use Rattle.std.proofs.lemmas.Result.{err_from_is_err_and}
use Rattle.load.proofs.room.Outcomes.{left}
use Rattle.load.proofs.judge.Judging.{layout_passed, sheet_refused, passed_loads, refused_loads}
use Rattle.load.proofs.load_sheet.Goals as goal

pub returns-in_err-layout : goal.returns-in_err-layout
returns-in_err-layout c = λ sheet e.
    let a = c.args in
    let p = err_from_is_err_and c.from_residual.result c.from_residual.ensures.1 in
    ap (λ r. left r a.heading.now a.doubles.now) (p.1 ∙ ap Err p.2) ∙ sym (refused_loads sheet a.starts _ a.heading.now a.doubles.now (sym (sheet_refused sheet a.starts (c.in_err-layout.ensures sheet e))))

pub load_judged-requires : goal.load_judged-requires
load_judged-requires c = let p = c.requires in
    let q = layout_passed p.0 c.args.starts (c.in_ok-layout.ensures p.0 p.1) in
    (p.0, p.1, p.2, q.0, q.1)

pub returns : goal.returns
returns c = λ sheet e.
    let a = c.args in
    let q = layout_passed sheet a.starts (c.in_ok-layout.ensures sheet e) in
    c.load_judged.ensures sheet e ∙ sym (passed_loads sheet _ a.heading.now a.doubles.now q.0 q.1)

-- `load::judge::judge_sheet`: the gate's answer, or the layout that it was asked of.
use mathlib.Core.Path.{sym, ◌∙◌}
use Rattle.load.proofs.room.Fits.{gate_small}
use Rattle.load.proofs.judge.Judging.{layout_is}
use Rattle.load.proofs.judge.judge_sheet.Goals as goal

pub first_refused_pair-requires : goal.first_refused_pair-requires
first_refused_pair-requires c = let p = c.requires in
    gate_small (c.args.bytes).now p.0 c.args.starts p.1 _ (c.layout_of_sheet-layout.ensures p.0 p.1)

pub returns-in-Some : goal.returns-in-Some
returns-in-Some c = λ sheet e. let y = c.layout_of_sheet-layout.ensures sheet e in layout_is sheet y (sym c.in-Some.is ∙ c.first_refused_pair.ensures sheet y)

pub returns-in-None : goal.returns-in-None
returns-in-None c = λ sheet e. let y = c.layout_of_sheet-layout.ensures sheet e in layout_is sheet y (sym c.in-None.is ∙ c.first_refused_pair.ensures sheet y)

-- `layout_gate::column_entries::one_each`: the pass over the zz lines of the held sheet, which rise.
use mathlib.Core.Path.{◌∙◌}
use Rattle.sheet.proofs.Whole.{read_whole}
use Rattle.layout_gate.proofs.column_entries.Lines.{held_turn}
use Rattle.layout_gate.proofs.column_entries.Turns.{turn_is}
use Rattle.layout_gate.proofs.column_entries.one_each.Goals as goal

pub returns : goal.returns
returns c = λ sheet e.
    c.in_turn.ensures
    ∙ held_turn _ _ _ _ _ sheet _ e _ (c.entries.ensures.0 _ sheet e)
    ∙ turn_is _ _ _ _ sheet.zz (read_whole _ sheet _ e).shape.zz_rising

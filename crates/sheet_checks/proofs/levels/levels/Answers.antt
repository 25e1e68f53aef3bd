-- `sheet_checks::levels::levels`: the blocks of the held sheet are those of its lines.
use mathlib.Core.Path.{sym, ap, ◌∙◌}
use mathlib.Core.List.{List}
use Rattle.sheet.specs.Run.{Block}
use Rattle.layout.specs.Blocks.{padded}
use Rattle.sheet_checks.specs.levels.Held.{level_list}
use Rattle.sheet_checks.proofs.levels.Reading.{few, held_blocks}
use Rattle.sheet_checks.proofs.levels.levels.Goals as goal

pub levels_at-requires : goal.levels_at-requires
levels_at-requires c = few _ _ c.requires

pub returns : goal.returns
returns c = λ sheet e. c.levels_at.ensures ∙ ap (λ (l : List Block). padded 8 (level_list l)) (sym (held_blocks _ _ sheet e))

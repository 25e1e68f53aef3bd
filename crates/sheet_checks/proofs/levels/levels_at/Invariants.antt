-- `sheet_checks::levels::levels_at`: the levels of the lines read so far are stored, and the rest follow.
use Rattle.layout.specs.Blocks.{padded}
use Rattle.sheet_checks.specs.levels.Held.{level_list, blocks_at}
use Rattle.sheet_checks.proofs.levels.Reading.{Levels}
use Rattle.sheet_checks.proofs.levels.levels_at.Given as goal

abbrev pub invariant-loop-i : goal.invariant-loop-i
invariant-loop-i l = Levels (padded 8 (level_list (blocks_at l.bytes l.k l.from))) l.bytes l.k l.m l.at l.i

-- `sheet_checks::mirror_cursor::block_of`: past j blocks, what remains holds the row.
use Prim.Native.Nat.{◌≤◌, ◌<◌}
use mathlib.Core.Path.{◌≡◌}
use mathlib.Core.List.{List}
use lib.ListN.{length}
use Rattle.sheet.specs.Run.{Block}
use Rattle.sheet.specs.Fault.{covered_rows}
use Rattle.layout.specs.Blocks.{padded}
use Rattle.sheet_checks.specs.levels.Held.{level_list}
use Rattle.sheet_checks.proofs.mirror_cursor.Blocks.{Search}
use Rattle.sheet_checks.proofs.mirror_cursor.block_of.Given as goal

abbrev pub invariant-loop-j : goal.invariant-loop-j
invariant-loop-j l = (blocks : List Block) → l.m ≡ padded 8 (level_list blocks) → length blocks ≤ 8 → l.i < covered_rows blocks → Search blocks l.i l.left l.j

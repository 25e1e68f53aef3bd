-- `block_places::sheet_rows::first_row`: the levels of the first i blocks of the sheet.
use Prim.Native.Nat.{◌≤◌}
use mathlib.Core.Path.{◌≡◌}
use lib.ListN.{get_or}
use Rattle.layout.specs.Blocks as Blocks
use Rattle.heading_format.specs.Heading.{sheet_levels}
use Rattle.block_places.proofs.sheet_rows.first_row.Given as goal

abbrev pub invariant-loop-i : goal.invariant-loop-i
invariant-loop-i l = (l.before ≡ get_or l.layout.order l.j 0) × (l.before ≤ 8) × (l.i ≤ l.before) × (l.sum ≡ Blocks.sum (sheet_levels l.layout l.layout.k) l.i)

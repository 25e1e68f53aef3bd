-- `block_places::sheet_rows::sheet_levels`: among the first s sorted blocks.
use Prim.Native.Nat.{◌≤◌}
use mathlib.Core.Path.{◌≡◌}
use Rattle.heading_format.specs.Heading.{sheet_levels}
use Rattle.block_places.proofs.sheet_rows.sheet_levels.Given as goal

abbrev pub invariant-loop-s : goal.invariant-loop-s
invariant-loop-s l = (l.layout.k ≤ 8) × (l.m ≡ sheet_levels l.layout l.s l.i)

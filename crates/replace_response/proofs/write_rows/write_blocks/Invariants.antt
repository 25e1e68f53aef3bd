use Prim.Native.Nat.{◌≤◌}
use mathlib.Core.Path.{◌≡◌}
use lib.ListN.{length}
use Rattle.replace_response.specs.write_rows.Strided.{fixed_rows}
use Rattle.replace_response.proofs.write_rows.write_blocks.Given as goal

abbrev pub invariant-loop-j : goal.invariant-loop-j
invariant-loop-j l = (l.j ≤ l.map.layout.k) × (l.doubles ≡ fixed_rows l.map.layout l.zty l.j l.initial.doubles) × (length l.doubles ≡ length l.initial.doubles)

-- `re_lower::band_row::row_left_of_pivot`: the invariant is that the first c cells of the row are solved and nothing else has changed, whatever list the first c0 were solved in.
use mathlib.Core.Path.{◌≡◌}
use Prim.Native.Nat.{◌≤◌}
use lib.ListN.{length}
use Rattle.storage.specs.Runs.{start, triangle}
use Rattle.re_lower.specs.Band.{LeftOfPivotFrom}
use Rattle.re_lower.proofs.band_row.row_left_of_pivot.Given as goal

abbrev pub invariant-loop-c : goal.invariant-loop-c
invariant-loop-c l = (l.c ≤ l.r) × (l.at ≡ start triangle l.c) × (length l.t ≡ length l.initial.t) × LeftOfPivotFrom l.initial.t l.t l.from l.c0 l.c

-- `re_lower::four_rows::gather`: the invariant is that the first i rows are there.
use mathlib.Core.Path.{◌≡◌}
use Prim.Native.Nat.{◌≤◌, ◌+◌}
use lib.ListN.{length}
use Rattle.storage.specs.Runs.{start, triangle}
use Rattle.re_lower.specs.Band.{BandGathered}
use Rattle.re_lower.proofs.four_rows.gather.Given as goal

abbrev pub invariant-loop-i : goal.invariant-loop-i
invariant-loop-i l = (l.i ≤ l.rows) × (l.at ≡ start triangle (l.base + l.i)) × (length l.x ≡ length l.initial.x) × BandGathered l.t l.x l.base l.i

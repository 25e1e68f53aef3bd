-- `re_lower::substitution::solve_row`: the invariant is that the first x cells are solved and nothing else has changed.
use mathlib.Core.Path.{◌≡◌}
use Prim.Native.Nat.{◌≤◌}
use lib.ListN.{length}
use Rattle.storage.specs.Runs.{start, triangle}
use Rattle.storage.specs.Part.{store}
use Rattle.re_lower.proofs.Turns.{row_to}
use Rattle.re_lower.proofs.substitution.solve_row.Given as goal

abbrev pub invariant-loop-x : goal.invariant-loop-x
invariant-loop-x l = (l.x ≤ l.n) × (l.from ≡ start triangle l.x) × (length l.t ≡ length l.initial.t) × (l.t ≡ store 0 (row_to l.initial.t l.l l.x) l.initial.t)

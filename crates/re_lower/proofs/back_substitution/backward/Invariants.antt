-- `re_lower::back_substitution::backward`: the invariant is that i cells are left, those behind them are solved and nothing else has changed.
use mathlib.Core.Path.{◌≡◌}
use Prim.Native.Nat.{◌≤◌, ◌-◌}
use lib.ListN.{length}
use Rattle.storage.specs.Runs.{start, triangle}
use Rattle.storage.specs.Part.{store}
use Rattle.re_lower.proofs.Back.{back_to}
use Rattle.re_lower.proofs.back_substitution.backward.Given as goal

abbrev pub invariant-loop-i : goal.invariant-loop-i
invariant-loop-i l = (l.i ≤ l.n) × (l.from ≡ start triangle l.i) × (length l.t ≡ length l.initial.t) × (l.t ≡ store l.i (back_to l.initial.t l.l l.n (l.n - l.i)) l.initial.t)

-- `re_lower::four_rows::solve_four`: the invariant is that the first c cells of each row are solved and nothing behind them has changed.
use mathlib.Core.Path.{◌≡◌}
use Prim.Native.Nat.{ℕ, ◌≤◌, ◌*◌}
use lib.ListN.{length}
use Rattle.storage.specs.Runs.{start, triangle}
use Rattle.rules.specs.Arithmetic.{ieee}
use Rattle.rules.specs.Cholesky.{at}
use Rattle.re_lower.specs.Band.{FourSolved}
use Rattle.re_lower.proofs.four_rows.solve_four.Given as goal

abbrev pub invariant-loop-c : goal.invariant-loop-c
invariant-loop-c l = (l.c ≤ l.n) × (l.from ≡ start triangle l.c) × (length l.x ≡ length l.initial.x) × FourSolved l.initial.x l.l l.x l.c × ((z : ℕ) → 4 * l.c ≤ z → at ieee l.x z ≡ at ieee l.initial.x z)

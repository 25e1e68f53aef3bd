use mathlib.Core.Path.{◌≡◌, refl, ap}
use Prim.Native.Nat.{ℕ, ◌+◌}
use native.Mathlib.Omega.{arith}
use native.Mathlib.Numerals.{add-one}
use Rattle.storage.specs.Runs.{start, triangle}
use Rattle.storage.proofs.Starts.{start_below}
use Rattle.rules.specs.Sums.{logs_from}
use Rattle.rules.specs.Cholesky.{at}
use Rattle.rules.specs.Arithmetic.{ieee}
use Rattle.re_lower.specs.Lower.{lower}
use Rattle.re_lower.proofs.Turns.{log_turn}
use Rattle.re_lower.proofs.pivot_logs.log_pivots.Goals as goal

pub loop-r-init : goal.loop-r-init
unfolding start logs_from
loop-r-init c = (omega arith, refl, refl)

pub loop-r-preserved : goal.loop-r-preserved
unfolding start
loop-r-preserved c = let a = c.args in let l = c.loop-r in (
  omega arith,
  rw add-one (omega arith),
  rw add-one
      (log_turn a.s l.v _ a.t.now _ l.r (λ r. lower a.t.now r r) (omega (arith, start_below triangle c.loop-r.r c.args.n c.loop-r-test.true))
      (ap (λ (i : ℕ). at ieee a.t.now (i + l.r)) l.invariant.1) l.invariant.2 c.ln-v.ensures),
)

pub returns : goal.returns
returns c = let e : c.loop-r.r ≡ c.args.n = omega arith in cc

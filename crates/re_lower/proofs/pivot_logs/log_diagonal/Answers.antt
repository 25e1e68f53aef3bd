use mathlib.Core.Path.{◌≡◌, refl, ap}
use Prim.Native.Nat.{◌+◌}
use native.Mathlib.Omega.{arith}
use native.Mathlib.Numerals.{add-one}
use Rattle.storage.specs.Runs.{start, single}
use Rattle.storage.proofs.Starts.{start_single}
use Rattle.rules.specs.Sums.{logs_from}
use Rattle.rules.specs.Cholesky.{at}
use Rattle.rules.specs.Arithmetic.{ieee}
use Rattle.re_lower.specs.Lower.{pivot}
use Rattle.re_lower.proofs.Turns.{log_turn}
use Rattle.re_lower.proofs.pivot_logs.log_diagonal.Goals as goal

pub loop-r-init : goal.loop-r-init
unfolding logs_from
loop-r-init c = (omega arith, refl)

pub loop-r-preserved : goal.loop-r-preserved
loop-r-preserved c = let a = c.args in let l = c.loop-r in
    let e : l.r ≡ start single l.r + 0 = omega (arith, start_single l.r) in
    (omega arith, rw add-one (log_turn a.s l.v _ a.t.now _ l.r (pivot a.t.now) (omega arith) (ap (at ieee a.t.now) e) l.invariant.1 c.ln-v.ensures))

pub returns : goal.returns
returns c = let e : c.loop-r.r ≡ c.args.n = omega arith in cc

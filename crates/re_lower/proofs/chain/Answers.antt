use mathlib.Core.Path.{◌≡◌, refl}
use native.Mathlib.Omega.{arith}
use native.Mathlib.Numerals.{add-one}
use lib.ListN.{length}
use Rattle.rules.specs.Sums.{subtract_from}
use Rattle.re_lower.proofs.Turns.{chain_turn}
use Rattle.re_lower.proofs.chain.Goals as goal

pub loop-i-init : goal.loop-i-init
unfolding subtract_from
loop-i-init c = refl

pub loop-i-preserved : goal.loop-i-preserved
loop-i-preserved c = let a = c.args in let l = c.loop-i in
    rw add-one (chain_turn a.s l.v a.x.now a.y.now l.i (omega arith) (omega arith) l.invariant)

pub returns : goal.returns
returns c = let e : c.loop-i.i ≡ length c.args.x.now = omega arith in cc

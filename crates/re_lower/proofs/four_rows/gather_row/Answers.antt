use mathlib.Core.Path.{◌≡◌, refl}
use native.Mathlib.Omega.{arith}
use native.Mathlib.Numerals.{add-one}
use lib.ListN.{length-set}
use Rattle.re_lower.proofs.Band.{gather_turn}
use Rattle.re_lower.proofs.four_rows.gather_row.Goals as goal

pub loop-c-init : goal.loop-c-init
loop-c-init c = (omega arith, refl, record { mine = λ y h. absurd (omega arith); others = λ j y h k. refl })

pub loop-c-preserved : goal.loop-c-preserved
loop-c-preserved c = let a = c.args in let l = c.loop-c in
    (omega arith, simp length-set l.invariant.1, rw add-one (gather_turn a.x.now a.t.now l.x a.from a.i l.c _ l.invariant.2 refl (omega arith) (omega arith) (omega arith)))

pub returns : goal.returns
returns c = let e : c.loop-c.c ≡ c.args.n = omega arith in rw e at c.loop-c.invariant.2

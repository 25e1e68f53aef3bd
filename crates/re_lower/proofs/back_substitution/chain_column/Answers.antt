use mathlib.Core.Path.{◌≡◌, ap, ◌∙◌}
use Prim.Native.Nat.{◌-◌, ◌+◌, suc}
use native.Mathlib.Omega.{arith}
use native.Mathlib.Numerals.{add-one}
use Rattle.storage.specs.Runs.{start, triangle}
use Rattle.storage.proofs.Starts.{start_below}
use Rattle.re_lower.proofs.Back.{column_to, column_none, column_turn}
use Rattle.re_lower.proofs.back_substitution.chain_column.Goals as goal

pub loop-q-init : goal.loop-q-init
loop-q-init c = (omega arith, omega arith, omega arith, column_none c.args.s c.args.l.now c.args.t.now c.args.i)

pub loop-q-preserved : goal.loop-q-preserved
unfolding start
loop-q-preserved c = let a = c.args in let l = c.loop-q in
    let e : suc (l.q - suc a.i) ≡ l.q + 1 - suc a.i = omega arith in (
      omega arith,
      omega arith,
      rw add-one (omega arith),
      column_turn a.s l.v a.l.now a.t.now a.i l.q l.row (l.q - suc a.i) (omega arith) l.invariant.2 (omega (arith, start_below triangle c.loop-q.q c.args.n c.loop-q-test.true)) (omega arith) l.invariant.3
          ∙ ap (column_to a.s a.l.now a.t.now a.i) e,
    )

pub returns : goal.returns
returns c = let e : c.loop-q.q ≡ c.args.n = omega arith in cc

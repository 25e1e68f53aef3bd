use mathlib.Core.Path.{◌≡◌, refl, sym, ap, ◌∙◌}
use native.Mathlib.Omega.{arith}
use native.Mathlib.Numerals.{add-one}
use lib.ListN.{length-set}
use Prim.Native.Nat.{ℕ}
use Rattle.storage.specs.Runs.{start, triangle}
use Rattle.storage.specs.Part.{store}
use Rattle.storage.proofs.Starts.{start_below}
use Rattle.storage.proofs.Parts.{store_nil}
use Rattle.rules.specs.Cholesky.{forward}
use Rattle.re_lower.proofs.Turns.{row_to, solve_turn, chain_lent}
use Rattle.re_lower.proofs.substitution.solve_row.Goals as goal

pub loop-x-init : goal.loop-x-init
unfolding start forward
loop-x-init c = let a = c.args in (omega arith, refl, refl, sym (store_nil 0 a.t.now))

pub loop-x-preserved : goal.loop-x-preserved
unfolding start
loop-x-preserved c = let a = c.args in
    let l = c.loop-x in (
      omega arith,
      rw add-one (omega arith),
      simp length-set l.invariant.2,
      rw add-one (solve_turn a.t.now a.l.now l.x (omega arith) l.t l.invariant.2 l.invariant.3 l.from l.invariant.1 (omega (arith, start_below triangle l.x a.n (omega arith))) _ (c.chain-v.ensures ∙ chain_lent _ l.t a.l.now 0 l.from _ _ l.x (omega arith) (omega arith) (omega arith) (omega (arith, start_below triangle l.x a.n (omega arith))))),
    )

pub returns : goal.returns
returns c = let a = c.args in let l = c.loop-x in let e : l.x ≡ a.n = omega arith in
    l.invariant.3 ∙ ap (λ (x : ℕ). store 0 (row_to a.t.now a.l.now x) a.t.now) e

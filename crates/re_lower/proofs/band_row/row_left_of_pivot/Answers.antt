use mathlib.Core.Path.{◌≡◌, refl, ◌∙◌}
use native.Mathlib.Omega.{arith}
use native.Mathlib.Numerals.{add-one}
use lib.ListN.{length-set}
use Rattle.storage.specs.Runs.{start, triangle}
use Rattle.storage.proofs.Starts.{start_below}
use Rattle.re_lower.proofs.Turns.{row_turn, chain_lent}
use Rattle.re_lower.proofs.band_row.row_left_of_pivot.Goals as goal

pub loop-c-init : goal.loop-c-init
loop-c-init c = (omega arith, omega arith, refl, λ w k q. q)

pub loop-c-preserved : goal.loop-c-preserved
unfolding start
loop-c-preserved c = let a = c.args in
    let l = c.loop-c in (
      omega arith,
      rw add-one (omega arith),
      simp length-set l.invariant.2,
      λ w k q. rw add-one (row_turn w a.from a.r (omega arith) (omega arith) l.c (omega arith) l.t (omega arith) (l.invariant.3 w k q) l.at l.invariant.1 _ (c.chain-v.ensures ∙ chain_lent _ l.t l.t a.from l.at _ _ l.c (omega arith) (omega arith) (omega arith) (omega (arith, start_below triangle l.c a.r c.loop-c-test.true)))),
    )

pub returns : goal.returns
returns c = let a = c.args in let e : c.loop-c.c ≡ a.r = omega arith in
    λ w k q. rw (← e) (c.loop-c.invariant.3 w k q)

use mathlib.Core.Path.{◌≡◌, refl, sym, ap, ◌∙◌}
use Prim.Native.Nat.{ℕ}
use native.Mathlib.Omega.{arith}
use native.Mathlib.Numerals.{add-one}
use lib.ListN.{length-set}
use Rattle.storage.specs.Runs.{tab}
use Rattle.storage.specs.Part.{store}
use Rattle.storage.proofs.Parts.{store_nil}
use Rattle.storage.proofs.Blocks.{fill_diagonal}
use Rattle.rules.specs.Arithmetic.{ieee}
use Rattle.rules.specs.Cholesky.{first_bad}
use Rattle.re_lower.specs.Lower.{pivot, answer_of}
use Rattle.re_lower.proofs.Laws.{goes_on, refused_at_lem}
use Rattle.re_lower.proofs.Turns.{roots_to, root_own, root_turn}
use Rattle.re_lower.proofs.diagonal_chol.chol_diagonal.Goals as goal

pub loop-r-init : goal.loop-r-init
unfolding tab first_bad
loop-r-init c = (omega arith, refl, sym (store_nil 0 c.args.t.now), refl)

pub returns-then-refused : goal.returns-then-refused
returns-then-refused c = let tested : c.refused.result ≡ ieee.refused (pivot c.args.t.now c.loop-r.r) = let l = c.loop-r in
    c.refused.ensures ∙ ap ieee.refused (root_own c.args.t.now l.r (omega arith) l.t l.invariant.1 l.invariant.2) in
    let a = c.args in let l = c.loop-r in
    record {
      answer = ap answer_of (sym (refused_at_lem ieee (pivot a.t.now) l.r a.n c.loop-r-test.true l.invariant.3 (sym tested ∙ c.if-refused.true)));
      left = l.invariant.2 ∙ ap (λ x. store 0 x a.t.now) (sym (fill_diagonal l.r (λ r c. ieee.root (pivot a.t.now r))));
    }

pub loop-r-preserved : goal.loop-r-preserved
loop-r-preserved c = let tested : c.refused.result ≡ ieee.refused (pivot c.args.t.now c.loop-r.r) = let l = c.loop-r in
    c.refused.ensures ∙ ap ieee.refused (root_own c.args.t.now l.r (omega arith) l.t l.invariant.1 l.invariant.2) in
    let a = c.args in
    let l = c.loop-r in (
      omega arith,
      simp length-set l.invariant.1,
      rw add-one (root_turn a.t.now l.r (omega arith) l.t l.invariant.1 l.invariant.2 _ c.sqrt.ensures),
      rw add-one (goes_on ieee (pivot a.t.now) l.r l.invariant.3 (sym tested ∙ c.if-refused.false)),
    )

pub returns : goal.returns
returns c = let a = c.args in let e : c.loop-r.r ≡ a.n = omega arith in record {
  answer = ap answer_of (sym (rw e at c.loop-r.invariant.3));
  left = c.loop-r.invariant.2 ∙ ap (λ (x : ℕ). store 0 (roots_to a.t.now x) a.t.now) e ∙ ap (λ x. store 0 x a.t.now) (sym (fill_diagonal a.n (λ r c. ieee.root (pivot a.t.now r))));
}

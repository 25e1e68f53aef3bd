use borrow.Author.Rules.{rules}
use Prim.Native.Nat.{ℕ}
use mathlib.Core.Path.{refl, ap, ◌∙◌}
use native.Mathlib.Omega.{arith}
use lib.ListN.{length-set}
use Rattle.replace_response.specs.write_rows.Strided.{strided, from}
use Rattle.replace_response.proofs.write_rows.Strided.{strided_none, strided_more}
use Rattle.replace_response.proofs.write_rows.spread.Goals as goal

pub loop-c-init : goal.loop-c-init
loop-c-init c = (omega arith, strided_none _ _ _ _, refl)

pub overflow_mul-doubles : goal.overflow_mul-doubles
overflow_mul-doubles c = let h = c.requires.1 c.loop-c.c c.loop-c-test.true in search rules

pub overflow_add-doubles-in-loop-c : goal.overflow_add-doubles-in-loop-c
overflow_add-doubles-in-loop-c c = let h = c.requires.1 c.loop-c.c c.loop-c-test.true in search rules

pub offset_bounds-doubles-to : goal.offset_bounds-doubles-to
offset_bounds-doubles-to c = let h = c.requires.1 c.loop-c.c c.loop-c-test.true in search rules

pub bounds-doubles-to : goal.bounds-doubles-to
bounds-doubles-to c = let h = c.requires.1 c.loop-c.c c.loop-c-test.true in search rules

pub loop-c-preserved : goal.loop-c-preserved
loop-c-preserved c = let l = c.loop-c in
    (omega arith, strided_more c.args.to c.args.step _ c.args.doubles.now l.c l.doubles l.invariant.1, simp length-set l.invariant.2)

pub returns : goal.returns
returns c = let l = c.loop-c in let a = c.args in
    l.invariant.1 ∙ ap (λ (x : ℕ). strided a.to a.step x (from a.l.now a.at) a.doubles.now) (omega arith)

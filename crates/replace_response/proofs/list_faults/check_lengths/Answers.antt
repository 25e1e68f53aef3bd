-- `replace_response::list_faults::check_lengths`: list by list.
use mathlib.Core.Path.{refl}
use borrow.Author.Tests.{eq-eqb, ne_eqb}
use Rattle.workspace.specs.Answers.{length_fault}
use Rattle.replace_response.proofs.list_faults.check_lengths.Goals as goal

pub returns-then-zty-layout : goal.returns-then-zty-layout
unfolding length_fault
returns-then-zty-layout c = rw (ne_eqb c.args.zty c.args.layout.q c.if-zty-layout.true) refl

pub returns-then-xty-layout : goal.returns-then-xty-layout
unfolding length_fault
returns-then-xty-layout c = let a = c.args in
    rw (eq-eqb a.zty a.layout.q c.if-zty-layout.false, ne_eqb a.xty a.layout.p c.if-xty-layout.true) refl

pub returns-then-yty-ne1 : goal.returns-then-yty-ne1
unfolding length_fault
returns-then-yty-ne1 c = let a = c.args in
    rw (eq-eqb a.zty a.layout.q c.if-zty-layout.false, eq-eqb a.xty a.layout.p c.if-xty-layout.false, ne_eqb a.yty 1 c.if-yty-ne1.true) refl

pub returns : goal.returns
unfolding length_fault
returns c = let a = c.args in
    rw (eq-eqb a.zty a.layout.q c.if-zty-layout.false, eq-eqb a.xty a.layout.p c.if-xty-layout.false, eq-eqb a.yty 1 c.if-yty-ne1.false) refl

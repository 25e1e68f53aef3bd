-- `factor_text::steps_text::put_factor`: what begin accepts is a workspace with as many blocks as theta has numbers.
use Rattle.workspace.proofs.Meaning.{meant_outcome}
use Rattle.factor_text.proofs.refusal_text.Texts.{begun_underway, begin_out}
use borrow.Author.Rules.{rules}
use Rattle.factor_text.proofs.steps_text.put_factor.Goals as goal

pub put_begun-requires : goal.put_begun-requires
put_begun-requires c = let a = c.args in
    (λ q. begun_underway a.heading.now a.doubles.now a.theta.now _ _ _ (search rules) (meant_outcome c.begin-a.result _ _ c.begin-a.ensures) q, search rules)

pub returns : goal.returns
returns c = let a = c.args in
    begin_out a.heading.now a.doubles.now a.theta.now _ _ _ _ _ _ _ (meant_outcome c.begin-a.result _ _ c.begin-a.ensures) c.put_begun.ensures

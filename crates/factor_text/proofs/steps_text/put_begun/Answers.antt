-- `factor_text::steps_text::put_begun`: by the answer; the run leaves the layout as it was.
use Rattle.std.specs.Prelude.{Result}
use Rattle.refusal.specs.declared.Refusal.{Refusal}
use Rattle.workspace.specs.Answers.{workspace}
use Rattle.factor_output.specs.Program.{after_begin}
use Rattle.factor_text.proofs.refusal_text.Texts.{answered, few_blocks, run_valid_heading, run_out}
use borrow.Author.Rules.{rules}
use Rattle.factor_text.proofs.steps_text.put_begun.Goals as goal

pub run-b-requires : goal.run-b-requires
run-b-requires c = let p = c.requires.0 c.in-Ok.is in
    (few_blocks (c.args.heading).now (c.args.doubles).now c.args.k p.0.valid p.1, p.0)

pub put_steps-requires : goal.put_steps-requires
put_steps-requires c = let p = c.requires.0 c.in-Ok.is in
    (λ q. run_valid_heading (c.args.heading).now (c.args.doubles).now c.args.k _ _ _ p.0 c.run-b.ensures q, search rules)

pub returns-in-Ok : goal.returns-in-Ok
returns-in-Ok c = let told = c.in-Ok.is in
    let p = c.requires.0 told in let h = (c.args.heading).now in let w = (c.args.doubles).now in
    answered (λ (x : Result Unit Refusal). after_begin x (workspace h w) c.args.k) _ _ _ _ _ told (run_out h w c.args.k _ _ _ _ _ _ p.0.valid p.1 c.run-b.ensures.same c.put_steps.ensures)

-- `profile_deviance::ready_step::apply`: the step is ready.
use mathlib.Core.List.{[]}
use Rattle.workspace.specs.Answers.{workspace}
use Rattle.update.specs.Names.{step_of_name}
use Rattle.profile_deviance.proofs.ready_step.Runs.{outcome, ran_one}
use Rattle.profile_deviance.proofs.ready_step.Turns.{is_ready}
use borrow.Author.Rules.{rules}
use Rattle.profile_deviance.proofs.ready_step.apply.Goals as goal

pub apply_ready-requires : goal.apply_ready-requires
apply_ready-requires c = is_ready (workspace c.args.heading.now c.args.doubles.now) (step_of_name c.args.name) [] c.requires

pub returns : goal.returns
returns c = ran_one (workspace c.args.heading.now c.args.doubles.now) (step_of_name c.args.name) c.requires (outcome c.apply_ready.result (workspace c.apply_ready.new.heading c.apply_ready.new.doubles)) c.apply_ready.ensures (search rules)

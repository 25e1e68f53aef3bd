-- `profile_deviance::full_update::factor`: the log determinant, or the refused pivot.
use Rattle.profile_deviance.proofs.full_update.Ends.{turn_come, still, run_done, run_refused}
use borrow.Author.Rules.{rules}
use Rattle.profile_deviance.proofs.full_update.factor.Goals as goal

pub run-requires : goal.run-requires
run-requires c = turn_come c.args.heading.now c.args.doubles.now _ c.layout-layout.ensures c.requires.1.valid c.requires.2

pub log_determinant-requires : goal.log_determinant-requires
log_determinant-requires c = still c.args.heading.now c.args.doubles.now c.run.new.doubles _ c.layout-layout.ensures c.requires.1 (search rules)

pub returns-in-Ok : goal.returns-in-Ok
returns-in-Ok c = let a = c.args in run_done a.heading.now a.doubles.now _ c.layout-layout.ensures _ _ _ c.run.ensures c.in-Ok.is _ c.log_determinant.ensures

pub returns-in-Err : goal.returns-in-Err
returns-in-Err c = let a = c.args in run_refused a.heading.now a.doubles.now _ c.layout-layout.ensures _ _ _ c.run.ensures _ _ c.in-Err.is c.numbers-pivot.ensures

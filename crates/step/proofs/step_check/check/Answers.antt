-- `step::step_check::check`: by the state.
use mathlib.Core.Path.{refl}
use Rattle.update.specs.Names.{step_of_name}
use Rattle.step.proofs.step_check.Faults.{fault_named}
use Rattle.step.proofs.step_check.check.Goals as goal

pub returns-in-UnderWay : goal.returns-in-UnderWay
returns-in-UnderWay c = let a = c.args in
    fault_named a.k a.progress (step_of_name a.name) c.in-UnderWay.is refl c.check_name.ensures

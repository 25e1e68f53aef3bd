-- `heading::state`: 0, 1 or any other number.
use Rattle.heading.proofs.Numbers.{state_else}
use Rattle.heading.proofs.state.Goals as goal

pub returns-in_default : goal.returns-in_default
returns-in_default c = search state_else

-- `solution_finish::refuse`: the list cleared whole.
use mathlib.Core.Path.{refl}
use Rattle.solution_finish.proofs.refuse.Goals as goal

pub returns : goal.returns
returns c = (refl, c.fill.ensures.after (λ y same. same))

-- `block_runs::runs::clear`: the part is filled.
use mathlib.Core.Path.{refl, ◌∙◌}
use Rattle.rules.specs.Arithmetic.{ieee}
use Rattle.block_runs.proofs.runs.Lent.{whole_run, tab_filled}
use Rattle.block_runs.proofs.runs.clear.Goals as goal

pub returns : goal.returns
returns c = let a = c.args in
    whole_run a.acc.now _ 0 a.n a.n (λ i. ieee.zero) refl (c.fill.ensures.after (λ y same. same) ∙ tab_filled a.acc.now a.n ieee.zero c.requires)

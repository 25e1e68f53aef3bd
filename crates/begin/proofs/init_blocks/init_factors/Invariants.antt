-- `begin::init_blocks::init_factors`: the first j factors are scaled.
use mathlib.Core.List.{[], ◌∷◌}
use Rattle.layout.specs.Shapes.{target, factors}
use Rattle.begin.proofs.scaled_blocks.Blocks.{Scaling}
use Rattle.begin.proofs.init_blocks.init_factors.Given as goal

abbrev pub invariant-loop-j : goal.invariant-loop-j
invariant-loop-j l = Scaling l.layout l.theta factors (λ x. target x x ∷ []) l.layout.k l.initial.doubles l.doubles l.j

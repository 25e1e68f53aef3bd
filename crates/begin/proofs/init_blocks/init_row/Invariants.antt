-- `begin::init_blocks::init_row`: the first j blocks of the row are begun.
use mathlib.Core.List.{[], ◌∷◌}
use Rattle.layout.specs.Shapes.{target, across}
use Rattle.begin.proofs.scaled_blocks.Blocks.{Scaling}
use Rattle.begin.proofs.init_blocks.init_row.Given as goal

abbrev pub invariant-loop-j : goal.invariant-loop-j
invariant-loop-j l = Scaling l.layout l.theta (across l.i) (λ x. target l.i x ∷ []) l.i l.initial.doubles l.doubles l.j

-- `begin::init_blocks::init_pairs`: the pairs of the first i factors are begun.
use Rattle.layout.specs.Shapes.{across, pairs}
use Rattle.begin.proofs.scaled_blocks.Blocks.{Scaling}
use Rattle.begin.proofs.init_blocks.init_pairs.Given as goal

abbrev pub invariant-loop-i : goal.invariant-loop-i
invariant-loop-i l = Scaling l.layout l.theta pairs (λ x. across x x) l.layout.k l.initial.doubles l.doubles l.i

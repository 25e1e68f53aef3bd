-- `solution_finish::b_vector::write_b`: the first j blocks of b are written.
use Rattle.solution_vectors.proofs.Vectors.{Blockwise}
use Rattle.solution_vectors.specs.result_places.Places.{b_at}
use Rattle.solution_finish.specs.b_vector.Effects.{effect_block}
use Rattle.solution_finish.proofs.b_vector.write_b.Given as goal

abbrev pub invariant-loop-j : goal.invariant-loop-j
invariant-loop-j l = Blockwise l.lent.layout (b_at l.lent.layout) (effect_block l.lent.heading.now l.lent.doubles.now l.lent.layout l.initial.v) l.initial.v l.v l.j

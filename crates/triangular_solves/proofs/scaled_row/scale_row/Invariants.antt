-- `triangular_solves::scaled_row::scale_row`: the first j blocks are written.
use Rattle.profile.specs.Solves.{scaled_row, block_in}
use Rattle.solution_vectors.proofs.Vectors.{Blockwise}
use Rattle.triangular_solves.proofs.scaled_row.scale_row.Given as goal

abbrev pub invariant-loop-j : goal.invariant-loop-j
invariant-loop-j l = Blockwise l.lent.layout l.from (block_in (scaled_row l.lent.heading.now l.lent.doubles.now l.r)) l.initial.v l.v l.j

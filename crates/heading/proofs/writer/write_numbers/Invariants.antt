-- `heading::writer::write_numbers`: the numbers before j are written.
use Rattle.storage.proofs.Filling.{Filling}
use Rattle.heading.proofs.Numbers.{each}
use Rattle.heading.proofs.writer.write_numbers.Given as goal

abbrev pub invariant-loop-j : goal.invariant-loop-j
invariant-loop-j l = Filling (each l.l) l.at l.n l.initial.heading l.heading l.j

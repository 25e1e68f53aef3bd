-- `heading::fill`: the numbers before j are read.
use lib.ListN.{length}
use Rattle.storage.proofs.Filling.{Filling}
use Rattle.heading.proofs.Numbers.{behind}
use Rattle.heading.proofs.fill.Given as goal

abbrev pub invariant-loop-j : goal.invariant-loop-j
invariant-loop-j l = Filling (behind l.heading l.at) 0 (length l.initial.r) l.initial.r l.r l.j

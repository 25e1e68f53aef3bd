-- `factor_text::pivot_lines::put_blocks`: the blocks so far, and one more.
use Rattle.factor_text.proofs.pivot_lines.Lines.{BlocksPut}
use Rattle.factor_text.proofs.pivot_lines.put_blocks.Given as goal

abbrev pub invariant-loop-j : goal.invariant-loop-j
invariant-loop-j l = BlocksPut l.layout l.doubles l.initial.out l.j l.at l.out

-- `factor_text::pivot_lines::put_rows`: the lines so far, and one more.
use Rattle.factor_text.proofs.pivot_lines.Lines.{RowsPut}
use Rattle.factor_text.proofs.pivot_lines.put_rows.Given as goal

abbrev pub invariant-loop-r : goal.invariant-loop-r
invariant-loop-r l = RowsPut l.layout l.doubles l.j l.from l.initial.out l.r l.at l.out

-- `factor_text::theta_part::read_theta`: the doubles so far, and those of the lines that are left, are those of all lines.
use Rattle.sheet.specs.Run.{cursor_at}
use Rattle.factor_text.proofs.theta_part.Theta.{PartRead}
use Rattle.factor_text.proofs.theta_part.read_theta.Given as goal

abbrev pub invariant-loop-i : goal.invariant-loop-i
invariant-loop-i l = PartRead l.bytes l.k (cursor_at l.fn.from) l.initial.theta l.i (cursor_at l.p) l.theta

-- The state follows from whether the steps left were one.
use native.Mathlib.Omega.{arith}
use borrow.Author.Tests.{eq-eqb, ne_eqb}
use Rattle.heading_format.proofs.Progress.mark.Goals as goal

pub returns-then-left-eq0 : goal.returns-then-left-eq0
returns-then-left-eq0 c = rw (eq-eqb c.args.self.left 1 (omega arith))

pub returns : goal.returns
returns c = rw (ne_eqb c.args.self.left 1 (λ e. omega arith))

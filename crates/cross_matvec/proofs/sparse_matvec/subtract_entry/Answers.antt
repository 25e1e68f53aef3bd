-- `cross_matvec::sparse_matvec::subtract_entry`: the test is the definition's.
use mathlib.Core.Bool.{true, false}
use Rattle.cross_matvec.proofs.Skips.{by_test}
use Rattle.cross_matvec.proofs.sparse_matvec.subtract_entry.Goals as goal

pub returns-then-e : goal.returns-then-e
returns-then-e c = let a = c.args in by_test a.at a.x a.e a.v.now true c.if-e.true

pub returns : goal.returns
returns c = let a = c.args in by_test a.at a.x a.e a.v.now false c.if-e.false

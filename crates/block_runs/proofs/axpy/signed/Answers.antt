-- `block_runs::axpy::signed`: the factor is negated where the test passes.
use lib.Ieee.{neg}
use borrow.Author.Rules.{rules}
use Rattle.block_runs.proofs.axpy.signed.Goals as goal

pub returns-then-subtract : goal.returns-then-subtract
unfolding neg
returns-then-subtract c = search rules

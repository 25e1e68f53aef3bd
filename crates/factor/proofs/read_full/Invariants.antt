-- `factor::read_full`: what is left of the input falls with each read that brings something.
use Rattle.std.proofs.Common.{length, ◌-◌, ◌≤◌}
use Rattle.factor.proofs.read_full.Given as goal

abbrev pub invariant-loop-n : goal.invariant-loop-n
invariant-loop-n g l = l.n ≤ length l.initial.input

abbrev pub decreases-loop-n : goal.decreases-loop-n
decreases-loop-n g l = length l.initial.input - l.n

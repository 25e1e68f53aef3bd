-- `block_runs::runs::subtract`: the closure takes the double of acc off.
use Prim.Native.Nat.{ℕ}
use borrow.Author.Rules.{rules}
use lib.Ieee.{Float}
use Rattle.rules.specs.Arithmetic.{ieee}
use Rattle.block_runs.specs.axpy.Axpy.{at}
use Rattle.block_runs.proofs.runs.subtract.Goals as goal

pub returns : goal.returns
returns c = c.change.ensures (λ (i : ℕ) (x : Float). ieee.minus x (at c.args.acc.now i)) (λ i x r l post. search rules)

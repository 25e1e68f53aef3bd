-- `re_lower::chain`: the invariant is that v is s less the first i products.
use mathlib.Core.Path.{◌≡◌}
use Rattle.rules.specs.Arithmetic.{ieee}
use Rattle.rules.specs.Sums.{chain}
use Rattle.rules.specs.Cholesky.{at}
use Rattle.re_lower.proofs.chain.Given as goal

abbrev pub invariant-loop-i : goal.invariant-loop-i
invariant-loop-i l = l.v ≡ chain ieee l.s (at ieee l.x) (at ieee l.y) l.i

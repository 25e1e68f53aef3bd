-- `re_lower::back_substitution::chain_column`: the invariant is that v is s less the products of the rows before q.
use mathlib.Core.Path.{◌≡◌}
use Prim.Native.Nat.{◌≤◌, ◌<◌, ◌-◌, suc}
use Rattle.storage.specs.Runs.{start, triangle}
use Rattle.re_lower.proofs.Back.{column_to}
use Rattle.re_lower.proofs.back_substitution.chain_column.Given as goal

abbrev pub invariant-loop-q : goal.invariant-loop-q
invariant-loop-q l = (l.i < l.q) × (l.q ≤ l.n) × (l.row ≡ start triangle l.q) × (l.v ≡ column_to l.s l.l l.t l.i (l.q - suc l.i))

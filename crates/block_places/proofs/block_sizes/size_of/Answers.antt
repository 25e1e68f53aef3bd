-- `block_places::block_sizes::size_of`: by the block's kind.
use mathlib.Core.Path.{sym, ap, ◌∙◌}
use Prim.Native.Nat.{ℕ}
use Rattle.block_places.specs.block_sizes.Kind.{sizes_of}
use Rattle.block_places.proofs.block_sizes.size_of.Goals as goal

pub returns-then-i-layout : goal.returns-then-i-layout
returns-then-i-layout c = c.fixed_size.ensures ∙ ap (λ (x : ℕ). sizes_of c.args.layout c.args.loaded x c.args.j) (sym c.if-i-layout.true)

pub returns-then-i-j : goal.returns-then-i-j
returns-then-i-j c = c.factor_size.ensures ∙ ap (λ (x : ℕ). sizes_of c.args.layout c.args.loaded x c.args.j) (sym c.if-i-j.true)

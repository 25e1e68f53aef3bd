-- `block_places::block_sizes::pair_size`: sparse or dense.
use mathlib.Core.Path.{sym, ap₂, ◌∙◌}
use native.Mathlib.Omega.{arith}
use Prim.Native.Nat.{ℕ, ◌*◌}
use Rattle.block_places.proofs.block_sizes.Sizes.{few_blocks, few_levels, product_small, kind_sparse, kind_dense}
use Rattle.block_places.proofs.block_sizes.pair_size.Goals as goal

pub returns-then-layout : goal.returns-then-layout
returns-then-layout c = c.levels_of.ensures ∙ sym (kind_sparse c.args.layout c.requires.0 c.args.loaded c.args.i c.args.j c.requires.1 c.requires.2 c.if-layout.true)

pub levels_of-requires-2 : goal.levels_of-requires-2
levels_of-requires-2 c = omega (arith, few_blocks c.args.layout c.requires.0)

pub levels_of-requires-3 : goal.levels_of-requires-3
levels_of-requires-3 c = omega (arith, few_blocks c.args.layout c.requires.0)

pub overflow_mul-result : goal.overflow_mul-result
overflow_mul-result c = let a = few_levels c.args.layout c.requires.0 c.args.i c.requires.2 in
    let b = few_levels c.args.layout c.requires.0 c.args.j (omega arith) in
    omega (arith, product_small c.levels_of-2.result c.levels_of-3.result (omega (arith, a, c.levels_of-2.ensures)) (omega (arith, b, c.levels_of-3.ensures)))

pub returns : goal.returns
returns c = ap₂ (λ (a b : ℕ). a * b) c.levels_of-2.ensures c.levels_of-3.ensures
    ∙ sym (kind_dense c.args.layout c.requires.0 c.args.loaded c.args.i c.args.j c.requires.1 c.requires.2 c.if-layout.false)

-- `block_places::block_sizes::fixed_size`: a column of block k's rows for each level, or the last triangle.
use Prim.Native.Nat.{ℕ, ◌+◌, ◌*◌, ◌/◌}
use mathlib.Core.Path.{◌≡◌, sym, ap, ap₂, ◌∙◌}
use native.Mathlib.Omega.{arith}
use Rattle.layout.specs.Shapes.{last_rows}
use Rattle.block_places.specs.block_sizes.Kind.{sizes_of}
use Rattle.block_places.proofs.block_sizes.Sizes.{few_blocks, few_levels, product_small, kind_fixed, kind_last, below}
use Rattle.block_places.proofs.block_sizes.fixed_size.Goals as goal

pub overflow_mul-result : goal.overflow_mul-result
overflow_mul-result c = let r = c.last_rows-rows in
    omega (arith, product_small r.result (r.result + 1) (omega (arith, r.ensures.1)) (omega (arith, r.ensures.1)))

pub returns-then-j-layout : goal.returns-then-j-layout
returns-then-j-layout c = let y = c.args.layout in
    let two : last_rows y + 1 ≡ y.p + 2 = omega arith in
    ap (λ (n : ℕ). n * (n + 1) / 2) c.last_rows-rows.ensures.0 ∙ ap (λ (n : ℕ). last_rows y * n / 2) two
    ∙ sym (kind_last y c.requires.0 c.args.loaded) ∙ ap (sizes_of y c.args.loaded y.k) (sym c.if-j-layout.true)

pub levels_of-requires : goal.levels_of-requires
levels_of-requires c = omega (arith, few_blocks c.args.layout c.requires.0, below c.args.j c.args.layout.k c.requires.1 c.if-j-layout.false)

pub overflow_mul-result-2 : goal.overflow_mul-result-2
overflow_mul-result-2 c = let r = c.last_rows-rows in
    let g = few_levels c.args.layout c.requires.0 c.args.j (below c.args.j c.args.layout.k c.requires.1 c.if-j-layout.false) in
    omega (arith, product_small r.result c.levels_of.result (omega (arith, r.ensures.1)) (omega (arith, g, c.levels_of.ensures)))

pub returns : goal.returns
returns c = ap₂ (λ (r m : ℕ). r * m) c.last_rows-rows.ensures.0 c.levels_of.ensures
    ∙ sym (kind_fixed c.args.layout c.requires.0 c.args.loaded c.args.j (below c.args.j c.args.layout.k c.requires.1 c.if-j-layout.false))

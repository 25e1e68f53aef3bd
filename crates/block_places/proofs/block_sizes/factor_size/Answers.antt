-- `block_places::block_sizes::factor_size`: by its kind.
use mathlib.Core.Path.{sym, ap, ◌∙◌}
use mathlib.Core.Logic.{inl, inr}
use native.Mathlib.Omega.{arith}
use Prim.Native.Nat.{ℕ, ◌+◌, ◌*◌, ◌/◌}
use Rattle.block_places.proofs.block_sizes.Sizes.{few_blocks, few_levels, product_small, kind_diagonal, kind_packed}
use Rattle.block_places.proofs.block_sizes.factor_size.Goals as goal

pub levels_of-m-requires : goal.levels_of-m-requires
levels_of-m-requires c = omega (arith, few_blocks c.args.layout c.requires.0)

pub returns-then-loaded : goal.returns-then-loaded
returns-then-loaded c = c.levels_of-m.ensures ∙ sym (kind_diagonal c.args.layout c.requires.0 c.args.loaded c.args.j c.requires.1 (inl c.if-loaded.true))

pub overflow_add-result : goal.overflow_add-result
overflow_add-result c = omega (arith, c.levels_of-m.ensures, few_levels c.args.layout c.requires.0 c.args.j c.requires.1)

pub overflow_mul-result : goal.overflow_mul-result
overflow_mul-result c = let m = c.levels_of-m.result in
    let h = c.levels_of-m.ensures in let g = few_levels c.args.layout c.requires.0 c.args.j c.requires.1 in
    omega (arith, product_small m (m + 1) (omega (arith, h, g)) (omega (arith, h, g)))

pub returns-in-Diagonal : goal.returns-in-Diagonal
returns-in-Diagonal c = c.levels_of-m.ensures
    ∙ sym (kind_diagonal c.args.layout c.requires.0 c.args.loaded c.args.j c.requires.1 (inr (sym c.factor_kind.ensures ∙ c.in-Diagonal.is)))

pub returns-in-Packed : goal.returns-in-Packed
returns-in-Packed c = ap (λ (m : ℕ). m * (m + 1) / 2) c.levels_of-m.ensures
    ∙ sym (kind_packed c.args.layout c.requires.0 c.args.loaded c.args.j c.requires.1 c.if-loaded.false (sym c.factor_kind.ensures ∙ c.in-Packed.is))

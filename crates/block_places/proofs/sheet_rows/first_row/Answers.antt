use Prim.Native.Nat.{ℕ, ◌+◌}
use mathlib.Core.Path.{refl, sym, ap, ap₂, ◌∙◌}
use native.Mathlib.Omega.{arith}
use Rattle.layout.specs.Blocks as Blocks
use Rattle.heading_format.specs.Heading.{sheet_levels}
use Rattle.heading_format.proofs.Valid.{is_valid}
use Rattle.layout.proofs.Sums.{sum_none, sum_more}
use Rattle.heading_format.proofs.Sorted.{order_below}
use Rattle.block_places.proofs.sheet_rows.Rows.{levels_small, rows_small}
use Rattle.block_places.proofs.sheet_rows.first_row.Goals as goal

pub offset_bounds-layout-j : goal.offset_bounds-layout-j
offset_bounds-layout-j c = omega (arith, (is_valid c.args.layout c.requires.0).blocks.1)

pub bounds-layout-j : goal.bounds-layout-j
bounds-layout-j c = omega (arith, (is_valid c.args.layout c.requires.0).blocks.1)

pub loop-i-init : goal.loop-i-init
loop-i-init c = (refl, omega (arith, order_below c.args.layout c.requires.0 c.args.j c.requires.1, (is_valid c.args.layout c.requires.0).blocks.1), omega arith, sum_none (sheet_levels c.args.layout c.args.layout.k))

pub sheet_levels-sum-requires : goal.sheet_levels-sum-requires
sheet_levels-sum-requires c = c.requires.0

pub overflow_add-sum : goal.overflow_add-sum
overflow_add-sum c = let l = c.loop-i in
    omega (arith, l.invariant.3, rows_small c.args.layout c.requires.0 l.i, c.sheet_levels-sum.ensures, levels_small c.args.layout c.requires.0 l.i)

pub loop-i-preserved : goal.loop-i-preserved
loop-i-preserved c = let a = c.args in let l = c.loop-i in
    (refl, l.invariant.1, omega arith, ap₂ (λ (t v : ℕ). t + v) l.invariant.3 c.sheet_levels-sum.ensures ∙ sym (sum_more (sheet_levels a.layout a.layout.k) l.i))

pub returns : goal.returns
returns c = let a = c.args in let l = c.loop-i in
    l.invariant.3 ∙ ap (λ (n : ℕ). Blocks.sum (sheet_levels a.layout a.layout.k) n) (omega arith)

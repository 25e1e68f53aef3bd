-- `block_places::block_sizes::cells_before`: the factors before it; or all factors, the pairs of the rows above and the blocks to its left.
use Prim.Native.Nat.{ℕ}
use mathlib.Core.Path.{◌≡◌, sym, subst, ◌∙◌}
use native.Mathlib.Omega.{arith}
use Rattle.layout.specs.Shapes.{targets, factors, cells_of, before}
use Rattle.block_places.specs.block_sizes.Kind.{sizes_of}
use Rattle.block_places.proofs.block_sizes.Sizes.{before_small}
use Rattle.block_places.proofs.block_sizes.Before.{before_factor, before_row}
use Rattle.block_places.proofs.block_sizes.cells_before.Goals as goal
use Rattle.block_places.proofs.block_sizes.cells_before.Goals.{then-i-j+else-i-layout, else-i-j}

pub returns-then-i-layout : goal.returns-then-i-layout
returns-then-i-layout c = let a = c.args in let e : a.i ≡ a.j = c.if-i-j.true in
    c.factor_cells.ensures
    ∙ sym
    (subst (λ (x : ℕ). before (sizes_of a.layout a.loaded) (targets a.layout.k) x a.j ≡ cells_of (sizes_of a.layout a.loaded) (factors a.j)) (sym e)
    (before_factor (sizes_of a.layout a.loaded) a.layout.k a.j (omega arith)))

pub overflow_add-result : goal.overflow_add-result
overflow_add-result c = let a = c.args in
    omega (arith, before_small a.layout c.requires.0 a.loaded a.i a.j c.requires.1 c.requires.2, c.factor_cells-2.ensures, c.pair_cells.ensures)

pub overflow_add-result-2 : goal.overflow_add-result-2
overflow_add-result-2 c = let a = c.args in omega (
  arith,
  before_small a.layout c.requires.0 a.loaded a.i a.j c.requires.1 c.requires.2,
  c.factor_cells-2.ensures,
  c.pair_cells.ensures,
  c.row_cells.ensures,
)

pub returns : goal.returns
returns c = let a = c.args in omega (
  arith,
  before_row (sizes_of a.layout a.loaded) a.layout.k a.i a.j c.requires.1 c.requires.2
      (elim c.if-i-j.branch [ then-i-j+else-i-layout w ↦ (λ e l. omega arith) | else-i-j w ↦ (λ e l. absurd (w.if-i-j.false e)) ]),
  c.factor_cells-2.ensures,
  c.pair_cells.ensures,
  c.row_cells.ensures,
)

-- `step_blocks::subtract_block::subtract`: by the kind of the target.
use Prim.Native.Nat.{ℕ, ◌<◌}
use mathlib.Core.Path.{sym, subst, ◌∙◌}
use native.Mathlib.Omega.{arith}
use Rattle.layout.proofs.Factors.{diagonal_second}
use Rattle.block_places.proofs.block_sizes.Sizes.{below}
use Rattle.block_places.proofs.block_kinds.Workspace.{fits_two, fits_numbers, fits_rows}
use Rattle.step_blocks.proofs.subtract_block.Rules.{made_last, made_triangle, made_dense, made_diagonal, made_entries, made_sparse}
use Rattle.heading_format.proofs.Fits.{room_of_lem}
use Rattle.step_blocks.proofs.subtract_block.subtract.Goals as goal

pub subtract_last_block-requires : goal.subtract_last_block-requires
subtract_last_block-requires c = let a = c.args in
    (room_of_lem c.requires.0, omega (arith, c.requires.1, c.if-j-layout.true))

pub returns-then-j-layout : goal.returns-then-j-layout
returns-then-j-layout c = let a = c.args in
    c.subtract_last_block.ensures ∙ made_last a.heading.now a.doubles.now a.layout c.requires.0 a.i a.j a.x c.requires.1 c.if-j-layout.true

pub subtract_sparse_block-requires : goal.subtract_sparse_block-requires
subtract_sparse_block-requires c = let a = c.args in
    (room_of_lem c.requires.0, c.if-layout.true, fits_two a.heading.now a.doubles.now a.layout c.requires.0 c.if-layout.true, fits_numbers a.heading.now a.doubles.now a.layout c.requires.0 c.if-layout.true, fits_rows a.heading.now a.doubles.now a.layout c.requires.0 c.if-layout.true)

pub returns-then-layout : goal.returns-then-layout
returns-then-layout c = let a = c.args in
    c.subtract_sparse_block.ensures ∙ made_sparse a.heading.now a.doubles.now a.layout c.requires.0 a.i a.j a.x c.requires.1 c.if-i-j.true c.if-layout.true

pub subtract_dense_block-requires : goal.subtract_dense_block-requires
subtract_dense_block-requires c = let a = c.args in
    (room_of_lem c.requires.0, omega (arith, c.requires.1), below a.j a.i c.requires.1.1 (λ e. c.if-i-j.true (sym e)), c.requires.1.2, c.if-layout.false)

pub returns-then-i-j : goal.returns-then-i-j
returns-then-i-j c = let a = c.args in
    c.subtract_dense_block.ensures ∙ made_dense a.heading.now a.doubles.now a.layout c.requires.0 a.i a.j a.x c.requires.1 c.if-i-j.true c.if-layout.false

pub subtract_diagonal_sparse_block-requires : goal.subtract_diagonal_sparse_block-requires
subtract_diagonal_sparse_block-requires c = let a = c.args in let p = c.if-layout-2.true in
    (room_of_lem c.requires.0, p, fits_two a.heading.now a.doubles.now a.layout c.requires.0 p, fits_numbers a.heading.now a.doubles.now a.layout c.requires.0 p)

pub returns-then-layout-2 : goal.returns-then-layout-2
returns-then-layout-2 c = let a = c.args in
    c.subtract_diagonal_sparse_block.ensures ∙ made_entries a.heading.now a.doubles.now a.layout c.requires.0 a.i a.j a.x c.requires.1 c.if-i-j.false (sym c.factor_kind.ensures ∙ c.in-Diagonal.is) c.if-layout-2.true

pub subtract_diagonal_block-requires : goal.subtract_diagonal_block-requires
subtract_diagonal_block-requires c = let a = c.args in let d = sym c.factor_kind.ensures ∙ c.in-Diagonal.is in
    let one = diagonal_second a.layout a.j (omega (arith, c.requires.1)) d in
    (room_of_lem c.requires.0, subst (λ (z : ℕ). z < a.layout.k) one (below a.j a.layout.k (omega (arith, c.requires.1)) c.if-j-layout.false), rw one at d, c.if-layout-2.false)

pub subtract_triangle_block-requires : goal.subtract_triangle_block-requires
subtract_triangle_block-requires c = let a = c.args in
    (room_of_lem c.requires.0, c.requires.1.0, below a.j a.layout.k (omega (arith, c.requires.1)) c.if-j-layout.false, sym c.factor_kind.ensures ∙ c.in-Packed.is)

pub returns-else-layout-2 : goal.returns-else-layout-2
returns-else-layout-2 c = let a = c.args in
    c.subtract_diagonal_block.ensures ∙ made_diagonal a.heading.now a.doubles.now a.layout c.requires.0 a.i a.j a.x c.requires.1 c.if-j-layout.false c.if-i-j.false (sym c.factor_kind.ensures ∙ c.in-Diagonal.is) c.if-layout-2.false

pub returns-in-Packed : goal.returns-in-Packed
returns-in-Packed c = let a = c.args in
    c.subtract_triangle_block.ensures ∙ made_triangle a.heading.now a.doubles.now a.layout c.requires.0 a.i a.j a.x c.requires.1 c.if-j-layout.false c.if-i-j.false (sym c.factor_kind.ensures ∙ c.in-Packed.is)

-- What T makes of each kind of target by each kind of factor is what its kernel makes of it (document 01, Record 4).
use Prim.Native.Nat.{ℕ, ◌≤◌, ◌<◌}
use mathlib.Core.Path.{◌≡◌, refl, sym, ◌∙◌}
use mathlib.Core.List.{List}
use mathlib.Core.Logic.{◌⊎◌}
use native.Mathlib.Omega.{arith}
use lib.ListN.{length}
use lib.Ieee.{Float}
use Rattle.storage.specs.Shape.{size_of}
use Rattle.storage.specs.Part.{part, store}
use Rattle.storage.specs.declared.Block.{Block}
use Rattle.storage.specs.Placed.{Placed, block_of, as_columns, as_triangle, as_diagonal, as_entries}
use Rattle.step_order.specs.Steps.{T}
use Rattle.layout.specs.declared.Layout.{Layout}
use Rattle.layout.specs.declared.FactorKind.TheVariants.{Diagonal, Packed}
use Rattle.layout.specs.Shapes.{factor_kind, working_at}
use Rattle.heading_format.specs.Heading.{entry_row}
use Rattle.heading_format.specs.Fits.{Fits}
use Rattle.cross_block.specs.Blocks.{divided_columns, solved_rows}
use Rattle.cross_block.proofs.Turns.{divided_entries}
use Rattle.update.specs.Working.{solved}
use Rattle.update.specs.Calls.{made_by}
use Rattle.block_places.specs.block_kinds.Rows.{rows_of}
use Rattle.block_places.specs.Working.{working, placed}
use Rattle.block_places.proofs.block_kinds.Workspace.{fits_two}
use Rattle.block_places.proofs.Placing.{is_columns, is_factor, is_entries}
use Rattle.step_blocks.proofs.solve_block.Ready.{is_solved}
use mathlib.Core.Bool.{true, false}

-- ---- each kind, by the forms

module _ (w : List Float) (t f : Placed) where
  -- T of the block t by the factor f
  abbrev stored : List Float
  stored = store t.at (solved t.shape f.shape (part t.at (size_of t.shape) w) (part f.at (size_of f.shape) w)) w

  by_diagonal : (b d : Block) → t ≡ as_columns b → f ≡ as_diagonal d → stored ≡ divided_columns b d w
  unfolding solved
  by_diagonal b d e g = rw (e, g) refl

  by_triangle : (b d : Block) → t ≡ as_columns b → f ≡ as_triangle d → stored ≡ solved_rows b d w
  unfolding solved
  by_triangle b d e g = rw (e, g) refl

  of_entries : (row : ℕ → ℕ) (b d : Block) → t ≡ as_entries row b → f ≡ as_diagonal d → stored ≡ divided_columns (block_of b.at 1 b.cols) d w
  unfolding solved
  of_entries row b d e g = rw (e, g) (sym (divided_entries b d row w))

-- ---- on a workspace

module _ (h : List ℕ) (w : List Float) (y : Layout) (fit : Fits y h (length w)) (i j : ℕ) (l : j < i) (g : i ≤ y.k) where
  abbrev row : ℕ → ℕ
  row = entry_row h

  -- T is that, at the layout's places and shapes
  made_is : store (working_at y i j) (made_by h w (T i j)) w ≡ stored w (placed y row i j) (placed y row j j)
  unfolding made_by
  made_is = rw fit.same refl

  -- a dense block by a diagonal
  pub made_divided : factor_kind y j ≡ Diagonal → (i ≡ y.k) ⊎ (y.sparse ≡ false) → divided_columns (working y i j) (working y j j) w ≡ store (working_at y i j) (made_by h w (T i j)) w
  made_divided d why = sym (made_is ∙ by_diagonal w (placed y row i j) (placed y row j j) (working y i j) (working y j j) (is_columns y row i j l g why) (is_factor y row fit.valid j (omega arith) d))

  -- a sparse pair
  pub made_entries : y.sparse ≡ true → (i ≡ y.k → ⊥) → divided_columns (block_of (working_at y 1 0) 1 (rows_of y 0)) (working y 0 0) w ≡ store (working_at y i j) (made_by h w (T i j)) w
  made_entries p o =
      let two = fits_two h w y fit p in
      let i₁ : i ≡ 1 = omega arith in
      let j₀ : j ≡ 0 = omega arith in
      sym (made_is ∙ rw (i₁, j₀) (of_entries w (placed y row 1 0) (placed y row 0 0) row (working y 1 0) (working y 0 0) (is_entries y row two p) (is_factor y row fit.valid 0 (omega arith) refl)))

  -- by a triangle
  pub made_solved : factor_kind y j ≡ Packed → solved_rows (working y i j) (working y j j) w ≡ store (working_at y i j) (made_by h w (T i j)) w
  made_solved d =
      let s = is_solved y fit.valid row i j l g d in
      sym (made_is ∙ by_triangle w (placed y row i j) (placed y row j j) (working y i j) (working y j j) s.0 s.1)

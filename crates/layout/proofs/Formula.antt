-- Record 2's formula for the doubles of a workspace, and the cells of each block.
use Prim.Native.Nat.{ℕ, zero, suc, ◌+◌, ◌*◌, ◌/◌, ◌≤◌, ◌<◌}
use mathlib.Core.Path.{◌≡◌, refl, ap, ◌∙◌}
use mathlib.Core.Bool.{true, false}
use mathlib.Core.List.{List, [], ◌∷◌, ◌++◌}
use native.Mathlib.Omega.{arith}
use borrow.Author.Tests.{eq-eqb, ne_eqb, lt-ltb, le-ltb}
use Rattle.storage.proofs.Places.{size_packed, size_columns, size_diagonal, size_entries}
use Rattle.layout.specs.declared.Layout.{Layout}
use Rattle.layout.specs.declared.FactorKind.TheVariants.{Diagonal, Packed}
use Rattle.layout.specs.Blocks.{sum}
use Rattle.layout.specs.Shapes.{
  levels,
  factor_kind,
  shape,
  loaded_shape,
  Target,
  target,
  factors,
  across,
  pairs,
  targets,
  cells_of,
  sizes,
  loaded_sizes,
  loaded_length,
  sum_at,
  cross_cells,
  fixed_cells,
  factor_cells,
  doubles_needed,
  doubles_formula,
  triangle_end,
  last_rows,
}

module _ (size : ℕ → ℕ → ℕ) where
  -- the cells of two lists of blocks are added
  pub cells_append : (a b : List Target) → cells_of size (a ++ b) ≡ cells_of size a + cells_of size b
  unfolding cells_of
  cells_append [] b = omega arith
  cells_append (t ∷ a) b = omega (arith, cells_append a b)

  -- of all blocks: the factors, the pairs, the fixed rows, the last triangle
  pub cells_targets : (k : ℕ) → cells_of size (targets k) ≡ cells_of size (factors k) + cells_of size (pairs k) + cells_of size (across k k) + size k k
  unfolding targets cells_of
  cells_targets k =
      omega (arith, cells_append (factors k ++ pairs k ++ across k k) (target k k ∷ []), cells_append (factors k ++ pairs k) (across k k), cells_append (factors k) (pairs k))

module _ (y : Layout) where
  -- ---- each block's cells

  -- a factor that is a diagonal
  pub diagonal_factor : (j : ℕ) → j < y.k → factor_kind y j ≡ Diagonal → sizes y j j ≡ levels y j
  unfolding shape
  diagonal_factor j h d = rw (ne_eqb j y.k (λ e. omega arith), eq-eqb j j refl, d) (size_diagonal (levels y j))

  -- and one that is packed
  pub packed_factor : (j : ℕ) → j < y.k → factor_kind y j ≡ Packed → 2 * sizes y j j ≡ levels y j * (levels y j + 1)
  unfolding shape
  packed_factor j h d = rw (ne_eqb j y.k (λ e. omega arith), eq-eqb j j refl, d) (size_packed (levels y j))

  -- a dense pair has rows times columns cells
  pub cross_dense : (i j : ℕ) → j < i → i < y.k → y.sparse ≡ false → sizes y i j ≡ levels y i * levels y j
  unfolding shape
  cross_dense i j h g d =
      rw (ne_eqb i y.k (λ e. omega arith), ne_eqb i j (λ e. omega arith), d) (size_columns (levels y i) (levels y j))

  -- a sparse one has a cell for each column
  pub cross_sparse : (i j : ℕ) → j < i → i < y.k → y.sparse ≡ true → sizes y i j ≡ levels y 0
  unfolding shape
  cross_sparse i j h g d =
      rw (ne_eqb i y.k (λ e. omega arith), ne_eqb i j (λ e. omega arith), d) (size_entries (levels y 0) (λ x. 0))

  -- the fixed rows of factor j
  pub fixed_size : (j : ℕ) → j < y.k → sizes y y.k j ≡ last_rows y * levels y j
  unfolding shape
  fixed_size j h = rw (eq-eqb y.k y.k refl, ne_eqb j y.k (λ e. omega arith)) (size_columns (last_rows y) (levels y j))

  -- the last triangle
  pub last_size : sizes y y.k y.k ≡ (y.p + 1) * (y.p + 2) / 2
  unfolding shape
  last_size = rw (eq-eqb y.k y.k refl) (let e = size_packed (last_rows y) in omega arith)

  -- a loaded factor is a diagonal
  pub loaded_factor : (j : ℕ) → j < y.k → loaded_sizes y j j ≡ levels y j
  unfolding loaded_shape
  loaded_factor j h = rw (eq-eqb j j refl, lt-ltb j y.k h) (size_diagonal (levels y j))

  -- every other block is loaded as it works
  pub loaded_other : (i j : ℕ) → j < i → loaded_sizes y i j ≡ sizes y i j
  unfolding loaded_shape
  loaded_other i j h = rw (ne_eqb i j (λ e. omega arith))

  pub loaded_last : loaded_sizes y y.k y.k ≡ sizes y y.k y.k
  unfolding loaded_shape
  loaded_last = rw (eq-eqb y.k y.k refl, le-ltb y.k y.k (omega arith))

  -- ---- each kind's cells

  loaded_factors : (n : ℕ) → n ≤ y.k → cells_of (loaded_sizes y) (factors n) ≡ sum (levels y) n
  unfolding factors cells_of sum
  loaded_factors zero h = refl
  loaded_factors (suc n) h =
      omega (arith, cells_append (loaded_sizes y) (factors n) (target n n ∷ []), loaded_factors n (omega arith), loaded_factor n (omega arith))

  loaded_across : (i n : ℕ) → n ≤ i → cells_of (loaded_sizes y) (across i n) ≡ cells_of (sizes y) (across i n)
  unfolding across cells_of
  loaded_across i zero h = refl
  loaded_across i (suc n) h =
      omega (
        arith,
        cells_append (loaded_sizes y) (across i n) (target i n ∷ []),
        cells_append (sizes y) (across i n) (target i n ∷ []),
        loaded_across i n (omega arith),
        loaded_other i n (omega arith),
      )

  loaded_pairs : (n : ℕ) → cells_of (loaded_sizes y) (pairs n) ≡ cells_of (sizes y) (pairs n)
  unfolding pairs cells_of
  loaded_pairs zero = refl
  loaded_pairs (suc n) =
      omega (
        arith,
        cells_append (loaded_sizes y) (pairs n) (across n n),
        cells_append (sizes y) (pairs n) (across n n),
        loaded_pairs n,
        loaded_across n n (omega arith),
      )

  fixed_rows_lem : (n : ℕ) → n ≤ y.k → cells_of (sizes y) (across y.k n) ≡ last_rows y * sum (levels y) n
  unfolding across cells_of sum
  fixed_rows_lem zero h = omega arith
  fixed_rows_lem (suc n) h =
      omega (arith, cells_append (sizes y) (across y.k n) (target y.k n ∷ []), fixed_rows_lem n (omega arith), fixed_size n (omega arith))

  -- ---- the formula

  -- X of a sparse pair is its entries
  pub sparse_cross : y.k ≡ 2 → y.sparse ≡ true → cross_cells y ≡ levels y 0
  unfolding cross_cells pairs across cells_of
  sparse_cross e d = ap (λ (n : ℕ). cells_of (sizes y) (pairs n)) e ∙ omega (arith, cross_sparse 1 0 (omega arith) (omega arith) d)

  -- the cells of the fixed rows and the last triangle
  fixed_part : y.q ≡ sum (levels y) y.k → cells_of (sizes y) (across y.k y.k) + sizes y y.k y.k ≡ fixed_cells y
  fixed_part e =
      omega (arith, last_size, fixed_rows_lem y.k (omega arith), ap (λ (x : ℕ). x * last_rows y) e)

  -- loaded are q diagonals, X and F
  pub loaded_split : y.q ≡ sum (levels y) y.k → loaded_length y ≡ y.q + cross_cells y + fixed_cells y
  unfolding triangle_end cross_cells
  loaded_split e =
      let k : ℕ = y.k in
      omega (
        arith,
        cells_targets (loaded_sizes y) k,
        loaded_factors k (omega arith),
        loaded_pairs k,
        loaded_across k k (omega arith),
        loaded_last,
        fixed_part e,
      )

  pub doubles_formula_lem : y.q ≡ sum (levels y) y.k → doubles_needed y ≡ doubles_formula y
  unfolding sum_at cross_cells factor_cells
  doubles_formula_lem e = omega (arith, loaded_split e, cells_targets (sizes y) y.k, fixed_part e)

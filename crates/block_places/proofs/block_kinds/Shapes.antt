-- The working blocks of a valid layout as the kernels take them: the shape of each, its limits, and its place among the doubles.
use Prim.Native.Nat.{ℕ, ◌+◌, ◌≤◌, ◌<◌}
use mathlib.Core.Path.{◌≡◌, refl, sym, ap, ◌∙◌}
use mathlib.Core.Bool.{Bool, true, false}
use mathlib.Core.Logic.{◌⊎◌, ⊎_elim, by_cases}
use native.Mathlib.Decide.{dec_lt}
use native.Mathlib.Omega.{arith}
use borrow.Author.Tests.{eq-eqb, ne_eqb}
use Rattle.storage.specs.Shape.{Shape, packed, columns, entries, size_of}
use Rattle.layout.specs.declared.Layout.{Layout}
use Rattle.layout.specs.declared.FactorKind.{FactorKind}
use Rattle.layout.specs.declared.FactorKind.TheVariants.{Diagonal, Packed}
use Rattle.layout.specs.Shapes.{pick, levels, factor_kind, shape_of_kind, shape, loaded_shape, sizes, loaded_sizes, loaded_at, working_at, doubles_needed, last_rows}
use Rattle.heading_format.specs.Heading.{valid_layout}
use Rattle.heading_format.proofs.Valid.{is_valid}
use Rattle.heading_format.proofs.Sorted.{dense_rows, packed_rows}
use Rattle.layout.proofs.Factors.{later_packed}
use Rattle.layout.proofs.Places.{size_working, size_loaded, working_inside, working_behind, loaded_inside}
use Rattle.block_places.specs.block_kinds.Rows.{rows_of}

-- one of two runs of doubles ends before the other starts
abbrev pub Apart : (off size a size' : ℕ) → Type 0
Apart off size a size' = (off + size ≤ a) ⊎ (a + size' ≤ off)

module _ (y : Layout) where
  -- ---- rows

  -- block k has one row more than there are fixed effects
  pub rows_last : (i : ℕ) → i ≡ y.k → rows_of y i ≡ last_rows y
  rows_last i e = rw (eq-eqb i y.k e) refl

  -- any other block has its levels
  pub rows_level : (i : ℕ) → i < y.k → rows_of y i ≡ levels y i
  rows_level i h = rw (ne_eqb i y.k (λ e. omega arith)) refl

  -- ---- shapes

  module _ (row : ℕ → ℕ) where
    -- a factor is stored by its kind
    pub factor_shape_lem : (j : ℕ) → (j ≡ y.k → ⊥) → {d : FactorKind} → factor_kind y j ≡ d → shape y row j j ≡ shape_of_kind d (rows_of y j)
    unfolding shape
    factor_shape_lem j n e = rw (ne_eqb j y.k n, eq-eqb j j refl, e) refl

    -- the last block is packed
    pub last_shape_lem : (i j : ℕ) → i ≡ y.k → j ≡ y.k → shape y row i j ≡ packed (rows_of y i)
    unfolding shape
    last_shape_lem i j e f = rw (eq-eqb i y.k e, eq-eqb j y.k f) refl

    -- a pair is sparse
    pub sparse_shape : (i j : ℕ) → j < i → i < y.k → y.sparse ≡ true → shape y row i j ≡ entries (rows_of y 0) row
    unfolding shape
    sparse_shape i j h g s = rw (ne_eqb i y.k (λ e. omega arith), ne_eqb i j (λ e. omega arith), ne_eqb 0 y.k (λ e. omega arith), s) refl

    -- or dense; the fixed rows always are
    pub dense_shape : (i j : ℕ) → j < i → i ≤ y.k → (i ≡ y.k) ⊎ (y.sparse ≡ false) → shape y row i j ≡ columns (rows_of y i) (rows_of y j)
    unfolding shape
    dense_shape i j h g why =
        by_cases (dec_lt i y.k)
        (λ l. ⊎_elim (λ e. absurd (omega arith))
        (λ s. rw (ne_eqb i y.k (λ e. omega arith), ne_eqb i j (λ e. omega arith), ne_eqb j y.k (λ e. omega arith), s) refl) why)
        (λ l. rw (eq-eqb i y.k (omega arith), ne_eqb j y.k (λ e. omega arith)) refl)

    -- a pair is loaded as it works
    pub loaded_pair : (i j : ℕ) → j < i → loaded_shape y row i j ≡ shape y row i j
    unfolding loaded_shape
    loaded_pair i j h = rw (ne_eqb i j (λ e. omega arith)) refl

  -- ---- places

  module _ (row : ℕ → ℕ) (doubles : ℕ) (room : doubles_needed y ≤ doubles) (i j : ℕ) (h : j ≤ i) (g : i ≤ y.k) (s : Shape) (e : shape y row i j ≡ s) where
    size_is : sizes y i j ≡ size_of s
    size_is = sym (size_working y row i j) ∙ ap size_of e

    -- a working block lies inside the doubles
    pub block_inside : working_at y i j + size_of s ≤ doubles
    block_inside = omega (arith, working_inside y i j h g, size_is)

    -- and behind every loaded one
    pub block_behind : (i' j' : ℕ) → j' ≤ i' → i' ≤ y.k → (s' : Shape) → loaded_shape y row i' j' ≡ s' → loaded_at y i' j' + size_of s' ≤ working_at y i j
    block_behind i' j' h' g' s' e' =
        let q : loaded_sizes y i' j' ≡ size_of s' = sym (size_loaded y row i' j') ∙ ap size_of e' in
        omega (arith, loaded_inside y i' j' h' g', working_behind y i j h g)

    -- a loaded block lies inside the doubles too
    pub loaded_room : (i' j' : ℕ) → j' ≤ i' → i' ≤ y.k → (s' : Shape) → loaded_shape y row i' j' ≡ s' → loaded_at y i' j' + size_of s' ≤ doubles
    loaded_room i' j' h' g' s' e' = omega (arith, block_behind i' j' h' g' s' e', block_inside)

  -- ---- limits

  module _ (ok : valid_layout y ≡ true) where
    -- a sparse pair is the one of blocks 1 and 0, and factor 1 is a diagonal
    pub sparse_two : y.sparse ≡ true → (factor_kind y 1 ≡ Diagonal) × (y.k ≡ 2)
    sparse_two s = let t = (is_valid y ok).sparse s in (rw t.0 refl, t.1)

    -- the last block is of the packed kind, as a later factor is
    pub last_packed : (j : ℕ) → j ≡ y.k → factor_kind y j ≡ Packed
    last_packed j e =
        let v = (is_valid y ok).blocks.0 in by_cases (dec_lt 1 j) (later_packed y j) (λ l. let one : j ≡ 1 = omega arith in rw one (go y.diagonal refl (sym one ∙ e)))
      where
        go : (b : Bool) → y.diagonal ≡ b → 1 ≡ y.k → pick b Diagonal Packed ≡ Packed
        go true d one = let two = (is_valid y ok).diagonal d in absurd (omega arith)
        go false d one = refl

    -- so any diagonal block is stored by its kind
    pub own_shape : (row : ℕ → ℕ) (j : ℕ) → j ≤ y.k → {d : FactorKind} → factor_kind y j ≡ d → shape y row j j ≡ shape_of_kind d (rows_of y j)
    own_shape row j h e =
        by_cases (dec_lt j y.k) (λ l. factor_shape_lem row j (λ q. omega arith) e)
        (λ l. let q : j ≡ y.k = omega arith in last_shape_lem row j j q q ∙ ap (λ (d : FactorKind). shape_of_kind d (rows_of y j)) (sym (last_packed j q) ∙ e))

    -- and where it is packed it has at most 316 rows
    pub packed_limit : (j : ℕ) → j ≤ y.k → factor_kind y j ≡ Packed → rows_of y j ≤ 316
    packed_limit j h e =
        by_cases (dec_lt j y.k) (λ l. omega (arith, rows_level j l, packed_rows y ok j l e)) (λ l. omega (arith, rows_last j (omega arith), (is_valid y ok).effects.1))

    -- so has a diagonal block 1 whose pair is dense
    pub second_limit : 1 < y.k → y.sparse ≡ false → rows_of y 1 ≤ 316
    second_limit h s = omega (arith, rows_level 1 h, dense_rows y ok 1 (omega arith) h s)

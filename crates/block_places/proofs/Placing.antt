-- The blocks of a valid layout, each in the form that is its shape; they lie within its doubles and apart from each other.
use Prim.Native.Nat.{ℕ, ◌≤◌, ◌<◌}
use mathlib.Core.Path.{◌≡◌, refl, subst, ap, ◌∙◌}
use mathlib.Core.Bool.{true, false}
use mathlib.Core.Logic.{◌⊎◌, inl, inr, ⊎_elim}
use native.Mathlib.Omega.{arith}
use borrow.Author.Tests.{eq-eqb, lt-ltb}
use Rattle.storage.specs.Shape.{Shape}
use Rattle.layout.specs.declared.Layout.{Layout}
use Rattle.layout.specs.declared.FactorKind.{FactorKind}
use Rattle.layout.specs.Shapes.{factor_kind, working_at, loaded_shape, loaded_at, loaded_length, sum_at, doubles_needed}
use Rattle.layout.proofs.Places.{size_working, size_loaded, working_inside, working_behind, working_apart, loaded_inside}
use Rattle.heading_format.specs.Heading.{valid_layout}
use Rattle.storage.specs.declared.Block.{Block}
use Rattle.storage.specs.Placed.{Placed, block_of, as_columns, as_diagonal, as_entries, Lies, Apart, Product, Squares}
use Rattle.block_places.specs.block_kinds.Rows.{rows_of}
use Rattle.block_places.proofs.block_kinds.Shapes.{rows_level, own_shape, dense_shape, sparse_shape, loaded_pair}
use Rattle.block_places.proofs.block_sizes.Sizes.{doubles_small}
use Rattle.block_places.specs.Working.{working, as_factor, placed, placed_loaded}

abbrev placed_at : ℕ → Shape → Placed
placed_at at s = record { at = at; shape = s }

module _ (y : Layout) (row : ℕ → ℕ) where
  -- a pair and the fixed rows lie by columns
  pub is_columns : (i j : ℕ) → j < i → i ≤ y.k → (i ≡ y.k) ⊎ (y.sparse ≡ false) → placed y row i j ≡ as_columns (working y i j)
  is_columns i j h g why = ap (placed_at (working_at y i j)) (dense_shape y row i j h g why)

  -- a factor by its kind, block k too
  pub is_factor : valid_layout y ≡ true → (j : ℕ) → j ≤ y.k → {d : FactorKind} → factor_kind y j ≡ d → placed y row j j ≡ as_factor d (working y j j)
  is_factor ok j h e = ap (placed_at (working_at y j j)) (own_shape y ok row j h e)

  -- of which the diagonal alone is loaded
  pub is_loaded_factor : (j : ℕ) → j < y.k → placed_loaded y row j j ≡ as_diagonal (block_of (loaded_at y j j) (rows_of y j) (rows_of y j))
  unfolding loaded_shape
  is_loaded_factor j h = rw (eq-eqb j j refl, lt-ltb j y.k h, rows_level y j h) refl

  -- a sparse pair has one entry a column
  pub is_entries : y.k ≡ 2 → y.sparse ≡ true → placed y row 1 0 ≡ as_entries row (working y 1 0)
  is_entries two p = ap (placed_at (working_at y 1 0)) (sparse_shape y row 1 0 (omega arith) (omega arith) p)

  -- a pair is loaded as it works
  pub is_loaded : (p : Placed) → placed y row 1 0 ≡ p → placed_loaded y row 1 0 ≡ placed_at (loaded_at y 1 0) p.shape
  is_loaded p e = ap (placed_at (loaded_at y 1 0)) (loaded_pair y row 1 0 (omega arith) ∙ ap (λ (q : Placed). q.shape) e)

  module _ {doubles : ℕ} (room : doubles_needed y ≤ doubles) {i j : ℕ} (h : j ≤ i) (g : i ≤ y.k) {p : Placed} (e : placed y row i j ≡ p) where
    pub lies : Lies doubles p
    lies = subst (Lies doubles) e (omega (arith, size_working y row i j, working_inside y i j h g))

    pub apart : {i' j' : ℕ} {q : Placed} → j' ≤ i' → i' ≤ y.k → placed y row i' j' ≡ q → (i ≡ i' → j ≡ j' → ⊥) → Apart p q
    apart {i'} {j'} h' g' f other =
        rw (← e, ← f)
        (⊎_elim (λ l. inl (omega (arith, size_working y row i j))) (λ l. inr (omega (arith, size_working y row i' j'))) (working_apart y i j h g i' j' h' g' other))

    -- a working block lies behind the loaded ones
    pub behind : {i' j' : ℕ} {q : Placed} → j' ≤ i' → i' ≤ y.k → placed_loaded y row i' j' ≡ q → Lies doubles q × Apart p q
    behind {i'} {j'} h' g' f =
        let l : Lies (working_at y i j) (placed_loaded y row i' j') = omega (arith, size_loaded y row i' j', loaded_inside y i' j' h' g', working_behind y i j h g) in
        rw (← e, ← f) (omega (arith, working_inside y i j h g), inr l)

  -- a target and the two blocks of S(i, j, x)
  pub is_product : {doubles : ℕ} → doubles_needed y ≤ doubles → (form side : Block → Placed) {i j x : ℕ} → x < j → j ≤ i → i ≤ y.k → placed y row i j ≡ form (working y i j)
      → placed y row i x ≡ as_columns (working y i x) → placed y row j x ≡ side (working y j x) → Product doubles form side (working y i j) (working y i x) (working y j x)
  is_product room form side l h g t a b =
      record {
        rows = refl;
        cols = refl;
        inner = refl;
        target = lies room h g t;
        left = lies room (omega arith) g a;
        right = lies room (omega arith) (omega arith) b;
        off_left = apart room h g t (omega arith) g a (λ e f. omega arith);
        off_right = apart room h g t (omega arith) (omega arith) b (λ e f. omega arith);
      }

  -- the diagonal of S(1, 1, 0), and its pair as it works and as it was loaded
  pub is_squares : {doubles : ℕ} → doubles_needed y ≤ doubles → (form : Block → Placed) → 1 ≤ y.k → placed y row 1 1 ≡ as_diagonal (working y 1 1) → placed y row 1 0 ≡ form (working y 1 0)
      → placed_loaded y row 1 0 ≡ form (block_of (loaded_at y 1 0) (rows_of y 1) (rows_of y 0)) → Squares doubles form (working y 1 1) (working y 1 0) (loaded_at y 1 0)
  is_squares room form g t a l =
      let s = behind room (omega arith) g t (omega arith) g l in
      record {
        rows = refl;
        target = lies room (omega arith) g t;
        left = lies room (omega arith) g a;
        source = s.0;
        off_left = apart room (omega arith) g t (omega arith) g a (λ e f. omega arith);
        off_source = s.1;
      }

-- ---- every loaded block starts low
loaded_few : (y : Layout) → valid_layout y ≡ true → loaded_length y < 2199023255552
unfolding sum_at
loaded_few y ok = omega (arith, doubles_small y ok)

pub loaded_low : (y : Layout) → valid_layout y ≡ true → (i j : ℕ) → j ≤ i → i ≤ y.k → loaded_at y i j < 2199023255552
loaded_low y ok i j h g = omega (arith, loaded_inside y i j h g, loaded_few y ok)

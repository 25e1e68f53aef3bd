-- What S makes of each kind of target is what its kernel makes of it (document 01, Record 4).
use Prim.Native.Nat.{ℕ, ◌<◌}
use mathlib.Core.Path.{◌≡◌, refl, sym, ◌∙◌}
use mathlib.Core.Bool.{Bool, true, false, ◌&&◌}
use mathlib.Core.List.{List}
use mathlib.Core.Logic.{inl, inr}
use native.Mathlib.Omega.{arith}
use lib.Dec.{eqb}
use lib.ListN.{length}
use lib.Ieee.{Float}
use borrow.Author.Tests.{eq-eqb, ne_eqb}
use Rattle.storage.specs.Shape.{size_of}
use Rattle.storage.specs.Part.{store}
use Rattle.storage.proofs.Starts.{start_single}
use Rattle.step_order.specs.Steps.{S, IsStep}
use Rattle.rules.specs.Arithmetic.{ieee}
use Rattle.rules.specs.Steps.{subtract_dense, subtract_last, subtract_sparse}
use Rattle.layout.specs.declared.Layout.{Layout}
use Rattle.layout.specs.declared.FactorKind.{FactorKind}
use Rattle.layout.specs.declared.FactorKind.TheVariants.{Diagonal, Packed}
use Rattle.layout.specs.Shapes.{pick, levels, factor_kind, loaded_at, working_at}
use Rattle.layout.proofs.Factors.{diagonal_second}
use Rattle.heading_format.specs.Heading.{entry_row, valid_layout}
use Rattle.heading_format.proofs.Valid.{both}
use Rattle.block_places.proofs.block_sizes.Sizes.{below, not_both}
use Rattle.heading_format.specs.Fits.{Fits}
use Rattle.block_runs.specs.blocks.Blocks.{entry, row_from}
use Rattle.schur.specs.rank_diagonal.Diagonal.{loaded, subtracted_diagonal}
use Rattle.schur.specs.Schur.{subtracted_dense, subtracted_rank, subtracted_last, subtracted_entries}
use Rattle.storage.specs.Placed.{Placed, as_columns, as_triangle, as_diagonal, as_entries, read, put}
use Rattle.storage.specs.declared.Block.{Block}
use Rattle.block_places.specs.Working.{working, placed, placed_loaded}
use Rattle.block_places.proofs.Placing.{is_columns, is_factor, is_entries, is_loaded}
use Rattle.update.specs.Working.{subtract_own, subtracted}
use Rattle.update.specs.Calls.{made_by}
use Rattle.block_places.proofs.block_kinds.Workspace.{fits_two}
use Rattle.block_places.proofs.block_kinds.Shapes.{rows_level, sparse_two, last_packed}
use Rattle.heading_format.proofs.Sorted.{packed_dense}
use Rattle.heading_format.specs.Parts.{heading_length}

-- What S chooses by: the target, its source, the other source and the loaded pair (1,0), the inner count, and the kind of target.
record Choice : Type 0 where
  t : Placed
  a : Placed
  b : Placed
  l : Placed
  inner : ℕ
  last : Bool
  own : Bool
  kind : FactorKind
  sparse : Bool

-- what it makes of the list
abbrev stored : List Float → (ℕ → ℕ) → Choice → List Float
stored w row c =
    let T = read c.t w in
    let A = read c.a w in
    let B = read c.b w in
    put c.t
    (pick c.last (subtract_last ieee T A c.inner)
    (pick c.own (subtract_own c.kind (loaded c.l.shape c.l.at w) T A B c.inner)
    (pick c.sparse (subtract_sparse ieee row T A (entry c.b.at (size_of c.b.shape) w) c.inner) (subtract_dense ieee T A B c.inner))))
    w

-- ---- each kind of target, by what the choices are

module _ (w : List Float) (row : ℕ → ℕ) (c : Choice) (T A : Block) (i : c.inner ≡ A.cols) where
  module _ (e : c.t ≡ as_triangle T) (f : c.a ≡ as_columns A) where
    chosen_last : c.last ≡ true → stored w row c ≡ subtracted_last T A w
    chosen_last l = rw (i, f, l, e) refl

    chosen_triangle : c.last ≡ false → c.own ≡ true → c.kind ≡ Packed → c.b ≡ as_columns A → stored w row c ≡ subtracted_rank T A w
    chosen_triangle l o d g = rw (i, f, l, o, d, e, g) refl

  chosen_diagonal : (form : Block → Placed) (src : ℕ) → c.last ≡ false → c.own ≡ true → c.kind ≡ Diagonal → c.t ≡ as_diagonal T → c.a ≡ form A
      → c.l ≡ record { at = src; shape = (form A).shape } → stored w row c ≡ subtracted_diagonal form T A src w
  chosen_diagonal form src l o d e f g = rw (i, f, l, o, d, e, g) refl

  module _ (B : Block) (l : c.last ≡ false) (d : c.own ≡ false) (e : c.t ≡ as_columns T) (f : c.a ≡ as_columns A) where
    chosen_dense : c.sparse ≡ false → c.b ≡ as_columns B → stored w row c ≡ subtracted_dense T A B w
    chosen_dense p g = rw (i, f, l, d, p, e, g) refl

    chosen_sparse : c.sparse ≡ true → c.b ≡ as_entries row B → stored w row c ≡ subtracted_entries row T A B w
    chosen_sparse p g = rw (i, f, l, d, p, e, g, start_single B.cols) refl

-- ---- on a workspace

module _ (h : List ℕ) (w : List Float) (y : Layout) (fit : Fits y h (length w)) where
  abbrev row : ℕ → ℕ
  row = entry_row h

  ok : valid_layout y ≡ true
  ok = fit.valid

  -- the choice at the layout's places and shapes
  abbrev choice : ℕ → ℕ → ℕ → Choice
  choice i j x =
      record {
        t = placed y row i j;
        a = placed y row i x;
        b = placed y row j x;
        l = placed_loaded y row 1 0;
        inner = levels y x;
        last = eqb j y.k;
        own = eqb i j;
        kind = factor_kind y j;
        sparse = eqb i y.k && y.sparse;
      }

  -- S is that
  made_is : (i j x : ℕ) → store (working_at y i j) (made_by h w (S i j x)) w ≡ stored w row (choice i j x)
  unfolding made_by subtracted
  made_is i j x = rw fit.same refl

  -- the last triangle
  pub made_last : (i j x : ℕ) → IsStep y.k (S i j x) → j ≡ y.k
      → subtracted_last (working y y.k y.k) (working y y.k x) w ≡ store (working_at y i j) (made_by h w (S i j x)) w
  made_last i j x (l, g, u) q =
      let i₁ : i ≡ y.k = omega arith in
      let x₁ : x < y.k = omega arith in
      rw (i₁, q)
      (sym
      (made_is y.k y.k x
      ∙ chosen_last w row (choice y.k y.k x) (working y y.k y.k) (working y y.k x) (sym (rows_level y x x₁)) (is_factor y row ok y.k (omega arith) (last_packed y ok y.k refl)) (is_columns y row y.k x x₁ (omega arith) (inl refl))
      (eq-eqb y.k y.k refl)))

  -- a triangle
  pub made_triangle : (i j x : ℕ) → IsStep y.k (S i j x) → (j ≡ y.k → ⊥) → i ≡ j → factor_kind y j ≡ Packed
      → subtracted_rank (working y j j) (working y j x) w ≡ store (working_at y i j) (made_by h w (S i j x)) w
  made_triangle i j x (l, g, u) o q d =
      let j₁ : j < y.k = below j y.k (omega arith) o in
      let s = is_columns y row j x l (omega arith) (inr (packed_dense y ok j j₁ d)) in
      rw q
      (sym
      (made_is j j x
      ∙ chosen_triangle w row (choice j j x) (working y j j) (working y j x) (sym (rows_level y x (omega arith))) (is_factor y row ok j (omega arith) d) s (ne_eqb j y.k o) (eq-eqb j j refl) d s))

  -- a dense block
  pub made_dense : (i j x : ℕ) → IsStep y.k (S i j x) → (i ≡ j → ⊥) → y.sparse ≡ false
      → subtracted_dense (working y i j) (working y i x) (working y j x) w ≡ store (working_at y i j) (made_by h w (S i j x)) w
  made_dense i j x (l, g, u) o p =
      let j₁ : j < i = below j i g (λ q. o (sym q)) in
      sym
      (made_is i j x
      ∙ chosen_dense w row (choice i j x) (working y i j) (working y i x) (sym (rows_level y x (omega arith))) (working y j x)
      (ne_eqb j y.k (λ q. omega arith)) (ne_eqb i j o) (is_columns y row i j j₁ u (inr p)) (is_columns y row i x (omega arith) u (inr p))
      (not_both (eqb i y.k) y.sparse (inr p)) (is_columns y row j x l (omega arith) (inr p)))

  -- the diagonal, with a dense pair
  pub made_diagonal : (i j x : ℕ) → IsStep y.k (S i j x) → (j ≡ y.k → ⊥) → i ≡ j → factor_kind y j ≡ Diagonal → y.sparse ≡ false
      → subtracted_diagonal as_columns (working y 1 1) (working y 1 0) (loaded_at y 1 0) w ≡ store (working_at y i j) (made_by h w (S i j x)) w
  made_diagonal i j x (l, g, u) o q d p =
      let one : j ≡ 1 = diagonal_second y j (omega arith) d in
      let k₁ : 1 < y.k = below 1 y.k (omega arith) (λ z. o (one ∙ z)) in
      let i₁ : i ≡ 1 = omega arith in
      let x₀ : x ≡ 0 = omega arith in
      let s = is_columns y row 1 0 (omega arith) (omega arith) (inr p) in
      rw (i₁, one, x₀)
      (sym
      (made_is 1 1 0
      ∙ chosen_diagonal w row (choice 1 1 0) (working y 1 1) (working y 1 0) (sym (rows_level y 0 (omega arith))) as_columns (loaded_at y 1 0) (ne_eqb 1 y.k (λ z. omega arith))
      refl (rw one at d) (is_factor y row ok 1 (omega arith) (rw one at d)) s (is_loaded y row _ s)))

  -- and with a sparse one
  pub made_entries : (i j x : ℕ) → IsStep y.k (S i j x) → i ≡ j → factor_kind y j ≡ Diagonal → y.sparse ≡ true
      → subtracted_diagonal (as_entries (row_from h heading_length)) (working y 1 1) (working y 1 0) (loaded_at y 1 0) w ≡ store (working_at y i j) (made_by h w (S i j x)) w
  made_entries i j x (l, g, u) q f p =
      let one : j ≡ 1 = diagonal_second y j (omega arith) f in
      let two = fits_two h w y fit p in
      let d = (sparse_two y ok p).0 in
      let i₁ : i ≡ 1 = omega arith in
      let x₀ : x ≡ 0 = omega arith in
      let s = is_entries y row two p in
      rw (i₁, one, x₀)
      (sym
      (made_is 1 1 0
      ∙ chosen_diagonal w row (choice 1 1 0) (working y 1 1) (working y 1 0) (sym (rows_level y 0 (omega arith))) (as_entries row) (loaded_at y 1 0) (ne_eqb 1 y.k (λ z. omega arith))
      refl d (is_factor y row ok 1 (omega arith) d) s (is_loaded y row _ s)))

  -- the fixed rows, with a sparse pair
  pub made_sparse : (i j x : ℕ) → IsStep y.k (S i j x) → (i ≡ j → ⊥) → y.sparse ≡ true
      → subtracted_entries (row_from h heading_length) (working y 2 1) (working y 2 0) (working y 1 0) w ≡ store (working_at y i j) (made_by h w (S i j x)) w
  made_sparse i j x (l, g, u) o p =
      let two = fits_two h w y fit p in
      let j₁ : j < i = below j i g (λ q. o (sym q)) in
      let i₂ : i ≡ 2 = omega arith in
      let one : j ≡ 1 = omega arith in
      let x₀ : x ≡ 0 = omega arith in
      rw (i₂, one, x₀)
      (sym
      (made_is 2 1 0
      ∙ chosen_sparse w row (choice 2 1 0) (working y 2 1) (working y 2 0) (sym (rows_level y 0 (omega arith))) (working y 1 0)
      (ne_eqb 1 y.k (λ z. omega arith)) refl (is_columns y row 2 1 (omega arith) (omega arith) (inl (sym two))) (is_columns y row 2 0 (omega arith) (omega arith) (inl (sym two)))
      (both (eqb 2 y.k) y.sparse (eq-eqb 2 y.k (sym two)) p) (is_entries y row two p)))

-- What the pivots of a factor that C has made are: each the root of a double that is not refused.
use Prim.Native.Nat.{ℕ, zero, suc, ◌<◌, ◌≤◌}
use mathlib.Core.Path.{◌≡◌, refl, sym, ap, subst, ◌∙◌}
use mathlib.Core.Bool.{Bool, true, false, ◌&&◌, cond, true≢false}
use mathlib.Core.List.{List, ◌++◌}
use mathlib.Core.Option.{none}
use native.Mathlib.Omega.{arith}
use lib.Dec.{ltb, leb, eqb}
use lib.ListN.{get_or}
use lib.Ieee.{Float, binary64}
use lib.Ieee.Fits.{add-fits, sub-fits}
use borrow.Author.Tests.{lt-ltb, le-leb, eq-eqb, ne_eqb}
use Rattle.storage.specs.Shape.{Shape, packed, diagonal, columns, entries, has_cell, fill}
use Rattle.storage.proofs.Blocks.{cell_fill}
use Rattle.step_order.specs.Elimination.{Rules, value, final, column, round}
use Rattle.step_order.proofs.Invariant.{finished}
use Rattle.rules.specs.Arithmetic.{ieee}
use Rattle.rules.specs.Begin.{diagonal_cell, fixed_cell}
use Rattle.rules.specs.Sums.{chain, dot, sum_from, subtract_from}
use Rattle.rules.specs.Steps.{subtract_dense, subtract_last, subtract_sparse}
use Rattle.rules.specs.Cholesky.{at, left_of_pivot, factor, radicand}
use Rattle.sheet.specs.Sheet.{Sheet}
use Rattle.layout.specs.declared.Layout.{Layout}
use Rattle.layout.specs.declared.FactorKind.{FactorKind}
use Rattle.layout.specs.declared.FactorKind.TheVariants.{Diagonal, Packed}
use Rattle.layout.specs.Shapes.{pick, levels, factor_kind, shape, loaded_shape}
use Rattle.heading_format.specs.Heading.{layout_of, entry_row, valid_layout}
use Rattle.heading_format.proofs.Valid.{both, is_valid}
use Rattle.workspace.specs.Memory.{cell_of, loaded_block, loaded_some, zeros, sorted_theta}
use Rattle.workspace.specs.Load.{heading_of}
use Rattle.update.specs.Working.{factored, refused_row, pivot_count, subtract_own, subtracted, scaled, rules_of}
use Rattle.book.specs.Book.{layout, last}
use Rattle.book.specs.Values.{rules_here, value_at, final_value}
use Rattle.rules.proofs.Rows.{pivot_root, accepted_at}
use Rattle.rules.proofs.Doubles.{Double, chain_fits}

-- a pivot p: the root of a double x that is not refused
pub record RootOf (p : Float) : Type 0 where
  pub x : Float
  pub double : Double x
  pub accepted : ieee.refused x ≡ false
  pub is : p ≡ ieee.root x

-- ---- C on one block
-- a factor has its pivots
has_pivot : (s : Shape) (r : ℕ) → r < pivot_count s → has_cell s r r ≡ true
has_pivot (packed n) r l = both (ltb r n) (leb r r) (lt-ltb r n l) (le-leb r r (omega arith))
has_pivot (diagonal n) r l = both (ltb r n) (eqb r r) (lt-ltb r n l) (eq-eqb r r refl)
has_pivot (columns rows cols) r l = absurd (omega arith)
has_pivot (entries cols row) r l = absurd (omega arith)

-- Of a block whose pivots are doubles and that is not refused, every pivot of the factor is the root of a double that is not refused.
pub factor_pivot : (s : Shape) (b : List Float) → ((r : ℕ) → r < pivot_count s → Double (cell_of s b r r)) → refused_row s b ≡ none
    → (r : ℕ) → r < pivot_count s → RootOf (cell_of s (factored s b) r r)
unfolding factored refused_row
factor_pivot (packed n) b doubles e r l =
    let row = left_of_pivot ieee (cell_of (packed n) b) (factor ieee (cell_of (packed n) b) r) r in
    record {
      x = radicand ieee (cell_of (packed n) b) r;
      double = chain_fits (cell_of (packed n) b r r) (at ieee row) (at ieee row) r (doubles r l);
      accepted = accepted_at ieee (radicand ieee (cell_of (packed n) b)) r n l e;
      is = cell_fill ieee.zero (packed n) (factor ieee (cell_of (packed n) b) n) r r (has_pivot (packed n) r l) ∙ pivot_root ieee (cell_of (packed n) b) r n l;
    }
factor_pivot (diagonal n) b doubles e r l = record {
  x = cell_of (diagonal n) b r r;
  double = doubles r l;
  accepted = accepted_at ieee (λ q. cell_of (diagonal n) b q q) r n l e;
  is = cell_fill ieee.zero (diagonal n) (λ q c. ieee.root (cell_of (diagonal n) b q q)) r r (has_pivot (diagonal n) r l);
}
factor_pivot (columns rows cols) b doubles e r l = absurd (omega arith)
factor_pivot (entries cols row) b doubles e r l = absurd (omega arith)

-- ---- the block that C takes
-- a difference, product by product, of one product at least
some_chain : (s : Float) (a b : ℕ → Float) (n : ℕ) → 1 ≤ n → Double (chain ieee s a b n)
unfolding subtract_from
some_chain s a b zero l = absurd (omega arith)
some_chain s a b (suc n) l = sub-fits binary64 (chain ieee s a b n) (ieee.times (a n) (b n))

-- cell (r, r) of what begin writes into a factor's block
cell_scaled : (latest : Bool) (s : Shape) (a : List Float) (f g : ℕ → ℕ → Float) (r : ℕ) → latest ≡ false → has_cell s r r ≡ true → Double (g r r)
    → Double (cell_of s (pick latest a (fill s (pick latest f g))) r r)
cell_scaled true s a f g r e h d = absurd (true≢false e)
cell_scaled false s a f g r e h d = subst Double (sym (cell_fill ieee.zero s g r r h)) d

-- begin writes its sum where row and column are the same
on_diagonal : (r : ℕ) (x z : Float) → Double x → Double (cond (eqb r r) x z)
on_diagonal r x z d = rw (eq-eqb r r refl) d

-- cell (r, r) of what S leaves in a factor's block, which only the rules of the last block and of a factor make
cell_subtracted : (latest own : Bool) (s : Shape) (f g h : ℕ → ℕ → Float) (r : ℕ) → own ≡ true → has_cell s r r ≡ true → Double (f r r) → Double (g r r)
    → Double (cell_of s (fill s (pick latest f (pick own g h))) r r)
cell_subtracted true own s f g h r e has a b = subst Double (sym (cell_fill ieee.zero s f r r has)) a
cell_subtracted false true s f g h r e has a b = subst Double (sym (cell_fill ieee.zero s g r r has)) b
cell_subtracted false false s f g h r e has a b = absurd (true≢false (sym e))

-- S of a factor leaves a difference on the diagonal
own_double : (d : FactorKind) (loaded : ℕ → ℕ → Bool) (T A B : ℕ → ℕ → Float) (inner r : ℕ) → Double (subtract_own d loaded T A B inner r r)
own_double Diagonal loaded T A B inner r = sub-fits binary64 (T r r) (sum_from ieee ieee.zero (loaded r) (A r) (A r) inner)
own_double Packed loaded T A B inner r = sub-fits binary64 (T r r) (dot ieee (A r) (B r) inner)

module _ (y : Layout) (row : ℕ → ℕ) (loaded : ℕ → ℕ → Bool) (stays_valid : valid_layout y ≡ true) where
  -- what begin writes on a diagonal is a sum
  scaled_double : (theta : List Float) (a : List Float) (r : ℕ) → r < pivot_count (shape y row 0 0) → Double (cell_of (shape y row 0 0) (scaled y row loaded theta 0 0 a) r r)
  unfolding scaled
  scaled_double theta a r l =
      let t = sorted_theta y theta in
      let a' = cell_of (loaded_shape y row 0 0) a in
      cell_scaled (eqb 0 y.k) (shape y row 0 0) a (λ q c. fixed_cell ieee (t 0) (a' q c)) (λ q c. cond (eqb q c) (diagonal_cell ieee (t 0) (a' q q)) ieee.zero) r
      (ne_eqb 0 y.k (λ (e : 0 ≡ y.k). omega (arith, (is_valid y stays_valid).blocks)))
      (has_pivot (shape y row 0 0) r l)
      (on_diagonal r (diagonal_cell ieee (t 0) (a' r r)) ieee.zero (add-fits binary64 (ieee.times (ieee.times (t 0) (t 0)) (a' r r)) ieee.one))

  -- what S leaves on a diagonal is a difference
  subtracted_double : (h : ℕ) → suc h ≤ y.k → (t a b : List Float) (r : ℕ) → r < pivot_count (shape y row (suc h) (suc h))
      → Double (cell_of (shape y row (suc h) (suc h)) (subtracted y row loaded (suc h) (suc h) h t a b) r r)
  unfolding subtracted
  subtracted_double h m t a b r l =
      let j = suc h in
      let cells = cell_of (shape y row j j) t in
      let A = cell_of (shape y row j h) a in
      let B = cell_of (shape y row j h) b in
      let inner = levels y h in
      cell_subtracted (eqb j y.k) (eqb j j) (shape y row j j) (subtract_last ieee cells A inner) (subtract_own (factor_kind y j) loaded cells A B inner)
      (pick (eqb j y.k && y.sparse) (subtract_sparse ieee row cells A (λ x. get_or b x ieee.zero) inner) (subtract_dense ieee cells A B inner)) r (eq-eqb j j refl)
      (has_pivot (shape y row j j) r l)
      (some_chain (cells r r) (A r) (A r) inner ((is_valid y stays_valid).level h m).0) (own_double (factor_kind y j) loaded cells A B inner r)

  -- theta, and the loaded blocks
  module _ (theta : List Float) (a : ℕ → ℕ → List Float) where
    -- the rules of this layout, and what begin writes
    abbrev R : Rules
    R = rules_of y row loaded

    abbrev begun : ℕ → ℕ → List Float
    begun i j = scaled y row loaded theta i j (a i j)

    -- The block that C(j) takes has doubles for its pivots, whatever was loaded: a sum of begin for j = 0, and what its last S leaves for a later j.
    value_double : (j : ℕ) → j ≤ y.k → (r : ℕ) → r < pivot_count (shape y row j j) → Double (cell_of (shape y row j j) (value R begun j j j) r r)
    unfolding value
    value_double zero m r l = scaled_double theta (a 0 0) r l
    value_double (suc h) m r l =
        subst (λ (z : List Float). Double (cell_of (shape y row (suc h) (suc h)) z r r)) (sym (later h (value R begun h)))
        (subtracted_double h m (value R begun h (suc h) (suc h)) (column R h (value R begun h) (suc h)) (column R h (value R begun h) (suc h)) r l)
      where
        later : (h : ℕ) (B : ℕ → ℕ → List Float) → round R h B (suc h) (suc h) ≡ R.subtract (suc h) (suc h) h (B (suc h) (suc h)) (column R h B (suc h)) (column R h B (suc h))
        later h B = rw (lt-ltb h (suc h) (omega arith)) refl

    -- So each pivot that it makes is the root of a double that is not refused.
    made_pivot : (j : ℕ) → j ≤ y.k → R.pivots j (value R begun j j j) ≡ none → (r : ℕ) → r < pivot_count (shape y row j j)
        → RootOf (cell_of (shape y row j j) (final R begun j j) r r)
    made_pivot j m e r l =
        subst (λ (z : List Float). RootOf (cell_of (shape y row j j) z r r)) (sym (finished R y.k begun j j ∙ own j (value R begun j)))
        (factor_pivot (shape y row j j) (value R begun j j j) (value_double j m) e r l)
      where
        own : (j : ℕ) (B : ℕ → ℕ → List Float) → column R j B j ≡ R.factor j (B j j)
        own j B = rw (eq-eqb j j refl) refl

module _ (sheet : Sheet) (loaded theta : List Float) (stays_valid : valid_layout (layout sheet) ≡ true)
    (fresh_layout : layout_of (heading_of sheet (layout sheet)) ≡ layout sheet) where
  -- the shape of factor j; it asks no rows of entries
  abbrev pub factor_shape : ℕ → Shape
  factor_shape j = shape (layout sheet) (entry_row (heading_of sheet (layout sheet))) j j

  -- no pivot of C(j) is refused: each of its pivots is the root of a double that is not refused, whatever doubles were loaded and whatever theta is
  pub final_pivot : (j : ℕ) → j ≤ last sheet → (rules_here sheet loaded theta).pivots j (value_at sheet loaded theta j j j) ≡ none
      → (r : ℕ) → r < pivot_count (factor_shape j) → RootOf (cell_of (factor_shape j) (final_value sheet loaded theta j j) r r)
  final_pivot j l e r b =
      let h = heading_of sheet (layout sheet) in
      let w = loaded ++ zeros (layout sheet) in
      subst (λ (y : Layout). r < pivot_count (shape y (entry_row h) j j) → RootOf (cell_of (shape y (entry_row h) j j) (final_value sheet loaded theta j j) r r)) fresh_layout
      (made_pivot (layout_of h) (entry_row h) (loaded_some h w) (ap valid_layout fresh_layout ∙ stays_valid) theta (loaded_block h w) j (subst (λ (y : Layout). j ≤ y.k) (sym fresh_layout) l) e r)
      b

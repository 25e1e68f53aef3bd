-- The rows of sparse entries count only in the columns of a sparse pair: two row functions that agree there make the same blocks, at one layout.
use Prim.Native.Nat.{ℕ, ◌<◌, ◌≤◌}
use mathlib.Core.Path.{◌≡◌, refl, sym, ap, ap₂, ◌∙◌, subst, fun_ext}
use mathlib.Core.Bool.{Bool, true, false, not, ◌&&◌, cond, and-eq-true_iff}
use mathlib.Core.List.{List}
use native.Mathlib.Omega.{arith}
use lib.Dec.{ltb, eqb}
use lib.ListN.{get_or}
use lib.Ieee.{Float}
use borrow.Author.Tests.{eqb-false, ltb-true}
use Rattle.storage.specs.Shape.{Shape, packed, diagonal, columns, entries, has_cell, fill}
use Rattle.storage.proofs.Cells.{tab_ext}
use Rattle.storage.proofs.Blocks.{fill_entries}
use Rattle.rules.specs.Arithmetic.{ieee}
use Rattle.rules.specs.Begin.{diagonal_cell, cross_cell, fixed_cell}
use Rattle.rules.specs.Steps.{subtract_dense, subtract_last, subtract_sparse, divide}
use Rattle.rules.specs.Cholesky.{at, forward, logs_of_first, logs_of_later}
use Rattle.rules.proofs.Rows.{less_counts}
use Rattle.layout.specs.declared.Layout.{Layout}
use Rattle.layout.specs.Shapes.{pick, levels, factor_kind, shape, loaded_shape}
use Rattle.layout.proofs.Rows.{pick_ext, shape_factor, cell_shape, cell_loaded}
use Rattle.workspace.specs.Memory.{cell_of, sorted_theta}
use Rattle.update.specs.Working.{pivot_count, solved, subtract_own, subtracted, logged, scaled}

-- ---- two choices of a shape: they are filled alike and have the same cells where what is chosen does
fill_pick : (b : Bool) (s s' t t' : Shape) (f : ℕ → ℕ → Float) → (b ≡ true → fill s f ≡ fill s' f) → fill t f ≡ fill t' f → fill (pick b s t) f ≡ fill (pick b s' t') f
fill_pick true s s' t t' f p q = p refl
fill_pick false s s' t t' f p q = q

has_pick : (b : Bool) (s s' t t' : Shape) (r c : ℕ) → (b ≡ true → has_cell s r c ≡ has_cell s' r c) → has_cell t r c ≡ has_cell t' r c
    → has_cell (pick b s t) r c ≡ has_cell (pick b s' t') r c
has_pick true s s' t t' r c p q = p refl
has_pick false s s' t t' r c p q = q

-- a test of the entry's row, made only in the columns that there are
has_entries : (b : Bool) (r x x' : ℕ) → (b ≡ true → x ≡ x') → (b && eqb r x) ≡ (b && eqb r x')
has_entries true r x x' h = ap (eqb r) (h refl)
has_entries false r x x' h = refl

-- T by one factor: a target of two shapes that are read alike and filled alike
solved_shape : (s s' d : Shape) (t f : List Float) → cell_of s t ≡ cell_of s' t → ((g : ℕ → ℕ → Float) → fill s g ≡ fill s' g) → solved s d t f ≡ solved s' d t f
unfolding solved
solved_shape s s' (packed n) t f c h =
    h (λ r x. at ieee (forward ieee (cell_of s t r) (cell_of (packed n) f) n) x)
    ∙ ap (λ (T : ℕ → ℕ → Float). fill s' (λ r x. at ieee (forward ieee (T r) (cell_of (packed n) f) n) x)) c
solved_shape s s' (diagonal n) t f c h =
    h (divide ieee (cell_of s t) (λ x. cell_of (diagonal n) f x x)) ∙ ap (λ (T : ℕ → ℕ → Float). fill s' (divide ieee T (λ x. cell_of (diagonal n) f x x))) c
solved_shape s s' (columns rows cols) t f c h = refl
solved_shape s s' (entries cols row) t f c h = refl

-- what S(i,j,h) writes into a cell, the cells of the three blocks being T, A, B and the entries of a sparse pair v
abbrev formed : Layout → (ℕ → ℕ) → (ℕ → ℕ → Bool) → ℕ → ℕ → ℕ → (T A B : ℕ → ℕ → Float) → (ℕ → Float) → ℕ → ℕ → Float
formed y row loaded i j h T A B v =
    pick (eqb j y.k) (subtract_last ieee T A (levels y h))
    (pick (eqb i j) (subtract_own (factor_kind y j) loaded T A B (levels y h))
    (pick (eqb i y.k && y.sparse) (subtract_sparse ieee row T A v (levels y h)) (subtract_dense ieee T A B (levels y h))))

-- what begin writes into a cell, the loaded block's cells being a
abbrev begun_cell : Layout → (ℕ → Float) → ℕ → ℕ → (ℕ → ℕ → Float) → ℕ → ℕ → Float
begun_cell y t i j a =
    pick (eqb i y.k) (λ r c. fixed_cell ieee (t j) (a r c))
    (pick (eqb i j) (λ r c. cond (eqb r c) (diagonal_cell ieee (t j) (a r r)) ieee.zero) (λ r c. cross_cell ieee (t j) (t i) (a r c)))

-- the cells of pair (1,0) that are not 0, in the loaded block b
abbrev pub some_of : Layout → (ℕ → ℕ) → List Float → ℕ → ℕ → Bool
some_of y row b r x = has_cell (loaded_shape y row 1 0) r x && not (ieee.null (cell_of (loaded_shape y row 1 0) b r x))

module _ (y : Layout) (row row' : ℕ → ℕ) (agree : y.sparse ≡ true → (c : ℕ) → c < levels y 0 → row c ≡ row' c) where
  -- a sparse pair is filled alike
  fill_sparse : (f : ℕ → ℕ → Float) → y.sparse ≡ true → fill (entries (levels y 0) row) f ≡ fill (entries (levels y 0) row') f
  fill_sparse f e =
      fill_entries (levels y 0) row f ∙ tab_ext (levels y 0) (λ c. f (row c) c) (λ c. f (row' c) c) (λ c l. ap (λ (r : ℕ). f r c) (agree e c l))
      ∙ sym (fill_entries (levels y 0) row' f)

  -- so is every block
  pub fill_shape : (i j : ℕ) (f : ℕ → ℕ → Float) → fill (shape y row i j) f ≡ fill (shape y row' i j) f
  unfolding shape
  fill_shape i j f =
      fill_pick (eqb i y.k) _ _ _ _ f (λ e. refl) (fill_pick (eqb i j) _ _ _ _ f (λ e. refl) (fill_pick y.sparse _ _ _ _ f (fill_sparse f) refl))

  -- and has the same cells
  has_shape : (i j r c : ℕ) → has_cell (shape y row i j) r c ≡ has_cell (shape y row' i j) r c
  unfolding shape
  has_shape i j r c =
      has_pick (eqb i y.k) _ _ _ _ r c (λ e. refl)
      (has_pick (eqb i j) _ _ _ _ r c (λ e. refl)
      (has_pick y.sparse _ _ _ _ r c (λ e. has_entries (ltb c (levels y 0)) r (row c) (row' c) (λ l. agree e c (ltb-true _ _ l))) refl))

  pub has_loaded : (i j r c : ℕ) → has_cell (loaded_shape y row i j) r c ≡ has_cell (loaded_shape y row' i j) r c
  unfolding loaded_shape
  has_loaded i j r c = has_pick (eqb i j && ltb j y.k) _ _ _ _ r c (λ e. refl) (has_shape i j r c)

  -- the rows change nothing in them
  pub some_rows : (b : List Float) → some_of y row b ≡ some_of y row' b
  some_rows b =
      fun_ext
      (λ r. fun_ext
      (λ x. ap₂ (λ (has : Bool) (X : ℕ → ℕ → Float). has && not (ieee.null (X r x))) (has_loaded 1 0 r x) (cell_loaded y row row' ieee.zero 1 0 b)))

  -- ---- T, the logarithms, S and begin
  -- T fills the target's shape and reads target and factor
  pub solved_rows_lem : (i j : ℕ) (t f : List Float) → solved (shape y row i j) (shape y row j j) t f ≡ solved (shape y row' i j) (shape y row' j j) t f
  solved_rows_lem i j t f =
      ap (λ (d : Shape). solved (shape y row i j) d t f) (shape_factor y row row' j)
      ∙ solved_shape (shape y row i j) (shape y row' i j) (shape y row' j j) t f (cell_shape y row row' ieee.zero i j t) (fill_shape i j)

  -- the logarithms are those of a factor
  pub logged_rows : (loaded loaded' : ℕ → ℕ → Bool) (j : ℕ) (s : Float) (f : List Float) → logged y row loaded j s f ≡ logged y row' loaded' j s f
  unfolding logged
  logged_rows loaded loaded' j s f =
      ap
      (λ (d : Shape). pick (eqb j y.k) s
      (pick (eqb j 0) (logs_of_first ieee s (λ r. cell_of d f r r) (pivot_count d)) (logs_of_later ieee s (λ r. cell_of d f r r) (pivot_count d))))
      (shape_factor y row row' j)

  -- a sparse pair is multiplied only in S(2,1,0), over its columns
  formed_rows : (loaded : ℕ → ℕ → Bool) (i j h : ℕ) (T A B : ℕ → ℕ → Float) (v : ℕ → Float) → (y.sparse ≡ true → y.k ≡ 2) → h < j → j ≤ i → i ≤ y.k
      → formed y row loaded i j h T A B v ≡ formed y row' loaded i j h T A B v
  formed_rows loaded i j h T A B v two l m n =
      pick_ext (eqb j y.k) _ _ _ _ (λ e. refl)
      (λ notLast. pick_ext (eqb i j) _ _ _ _ (λ e. refl)
      (λ e. pick_ext (eqb i y.k && y.sparse) _ _ _ _
      (λ q. let is-sparse : y.sparse ≡ true = ((and-eq-true_iff (eqb i y.k) y.sparse).0 q).1 in
      let before_last = eqb-false j y.k notLast in
      let first : h ≡ 0 = omega (arith, two is-sparse) in
      fun_ext
      (λ r. fun_ext
      (λ c. less_counts ieee (T r c) (λ x. eqb (row x) c) (λ x. eqb (row' x) c) (A r) v (levels y h)
      (λ x p. ap (λ (z : ℕ). eqb z c) (agree is-sparse x (subst (λ (z : ℕ). x < levels y z) first p))))))
      (λ q. refl)))

  -- S fills the target's shape, and asks the rows themselves only over the columns of a sparse pair
  pub subtracted_rows : (loaded : ℕ → ℕ → Bool) (i j h : ℕ) (t a b : List Float) → (y.sparse ≡ true → y.k ≡ 2) → h < j → j ≤ i → i ≤ y.k
      → subtracted y row loaded i j h t a b ≡ subtracted y row' loaded i j h t a b
  unfolding subtracted
  subtracted_rows loaded i j h t a b two l m n =
      let T = cell_of (shape y row i j) t in
      let T' = cell_of (shape y row' i j) t in
      let A = cell_of (shape y row i h) a in
      let A' = cell_of (shape y row' i h) a in
      let B = cell_of (shape y row j h) b in
      let v : ℕ → Float = λ x. get_or b x ieee.zero in
      fill_shape i j (formed y row loaded i j h T A B v)
      ∙ ap (λ f. fill (shape y row' i j) f)
      (formed_rows loaded i j h T A B v two l m n
      ∙ ap (λ (X : ℕ → ℕ → Float). formed y row' loaded i j h X A B v) (cell_shape y row row' ieee.zero i j t)
      ∙ ap (λ (X : ℕ → ℕ → Float). formed y row' loaded i j h T' X B v) (cell_shape y row row' ieee.zero i h a)
      ∙ ap (λ (X : ℕ → ℕ → Float). formed y row' loaded i j h T' A' X v) (cell_shape y row row' ieee.zero j h b))

  -- begin asks nothing of what was loaded but the block itself
  pub scaled_rows : (loaded loaded' : ℕ → ℕ → Bool) (theta : List Float) (i j : ℕ) (a : List Float) → scaled y row loaded theta i j a ≡ scaled y row' loaded' theta i j a
  unfolding scaled
  scaled_rows loaded loaded' theta i j a =
      let t = sorted_theta y theta in
      ap (pick (eqb j y.k) a)
      (fill_shape i j (begun_cell y t i j (cell_of (loaded_shape y row i j) a))
      ∙ ap (λ (X : ℕ → ℕ → Float). fill (shape y row' i j) (begun_cell y t i j X)) (cell_loaded y row row' ieee.zero i j a))

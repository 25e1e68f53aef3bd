-- The sums of some rows, one square and one column more at a time, and what they are subtracted from.
use Prim.Native.Nat.{ℕ, suc, ◌+◌, ◌≤◌, ◌<◌}
use mathlib.Core.Path.{◌≡◌, refl, sym, ap, ap₂, subst, ◌∙◌}
use mathlib.Core.Bool.{Bool, true, false, not, ◌&&◌, cond}
use mathlib.Core.List.{List}
use mathlib.Core.Logic.{by_cases}
use native.Mathlib.Decide.{ℕ_discrete}
use native.Mathlib.Nat.{zero-add}
use native.Mathlib.Omega.{arith}
use borrow.Author.Tests.{lt-ltb, eq-eqb, ne_eqb}
use lib.Dec.{eqb}
use lib.ListN.{length, get_or, set}
use lib.Seq.{get_or-set_same, get_or-set_other}
use lib.Ieee.{Float, nan}
use Rattle.storage.specs.Runs.{start, dense}
use Rattle.storage.specs.Shape.{Shape, columns, entries, has_cell}
use Rattle.storage.specs.declared.Block.{Block}
use Rattle.storage.specs.Placed.{Placed, block_of, as_columns, as_entries, Lies}
use Rattle.storage.proofs.Starts.{start_single}
use Rattle.rules.specs.Arithmetic.{ieee}
use Rattle.rules.specs.Sums.{sum_from}
use Rattle.block_runs.specs.blocks.Blocks.{block}
use Rattle.block_runs.proofs.blocks.Laws.{read_block, has_dense}
use Rattle.block_runs.specs.axpy.Axpy.{at, run}
use Rattle.block_runs.proofs.axpy.Sums.{read_run}
use Rattle.schur.specs.rank_diagonal.Rows.{plus_square, Zeros, Summed, with_cell, Added, AddedEntry}

-- ---- one square

pub square_skipped : (cell v y : Float) → ieee.null cell ≡ true → y ≡ plus_square true cell v y
square_skipped cell v y h = ap (λ (b : Bool). cond (not b) (ieee.plus y (ieee.times v v)) y) (sym h)

pub square_added : (cell v y : Float) → ieee.null cell ≡ false → ieee.plus y (ieee.times v v) ≡ plus_square true cell v y
square_added cell v y h = ap (λ (b : Bool). cond (not b) (ieee.plus y (ieee.times v v)) y) (sym h)

-- ---- one column

module _ (p : Placed) (src : ℕ) (w : List Float) (from m : ℕ) where
  pub summed_none : (t : List Float) → Zeros m t → Summed p src w from m 0 t
  unfolding sum_from
  summed_none t z = z

  pub summed_more : (x : ℕ) (t t' : List Float) → Summed p src w from m x t → Added p src w from m x t t' → Summed p src w from m (suc x) t'
  unfolding sum_from
  summed_more x t t' so more i h = more i h ∙ ap (with_cell p src w (from + i) x) (so i h)

-- ---- a dense column: each row has a cell there

module _ (a : Block) (src : ℕ) (w : List Float) (x : ℕ) (t₀ : List Float) where
  module _ (here : x < a.cols) (fits : Lies (length w) (as_columns a)) (fits-src : Lies (length w) (as_columns (block_of src a.rows a.cols)))
      (p q : ℕ) (e : p ≡ a.at + start (dense a.rows) x) (f : q ≡ src + start (dense a.rows) x) (r : ℕ) (h : r < a.rows) where
    dense_square : (y : Float) → plus_square true (get_or w (q + r) nan) (get_or w (p + r) nan) y ≡ with_cell (as_columns a) src w (0 + r) x y
    dense_square y =
        let s : Shape = columns a.rows a.cols in
        let k : has_cell s r x ≡ true = has_dense a.rows a.cols r x h here in
        ap₂ (λ (c v : Float). plus_square true c v y) (read_block s src w r x (q + r) k fits-src (omega arith)) (read_block s a.at w r x (p + r) k fits (omega arith))
        ∙ ap (λ (b : Bool). plus_square b (block src s w r x) (block a.at s w r x) y) (sym k) ∙ ap (λ (i : ℕ). with_cell (as_columns a) src w i x y) (sym (zero-add r))

  -- the sums of every row
  pub column_added : (here : x < a.cols) → Lies (length w) (as_columns a) → Lies (length w) (as_columns (block_of src a.rows a.cols))
      → (p q : ℕ) → p ≡ a.at + start (dense a.rows) x → q ≡ src + start (dense a.rows) x → a.rows ≤ length t₀
      → {t : List Float} → t ≡ run 0 a.rows (λ r. plus_square true (at w (q + r)) (at w (p + r)) (at t₀ (0 + r))) t₀ → Added (as_columns a) src w 0 a.rows x t₀ t
  column_added here fits fits-src p q e f room so i h =
      ap (λ (l : List Float). at l i) so ∙ read_run 0 a.rows _ t₀ (omega arith) i i h (omega arith)
      ∙ ap (λ (k : ℕ). plus_square true (at w (q + i)) (at w (p + i)) (at t₀ k)) (zero-add i)
      ∙ dense_square here fits fits-src p q e f i h (at t₀ i)

-- ---- a sparse column: one row has a cell there

module _ (from m row : ℕ) (cell v : Float) (t : List Float) where
  -- a row that is not the entry's keeps its sum
  other_row : (i : ℕ) → (from + i ≡ row → ⊥) → get_or t i nan ≡ plus_square (eqb (from + i) row) cell v (get_or t i nan)
  other_row i h = ap (λ (b : Bool). plus_square b cell v (get_or t i nan)) (sym (ne_eqb (from + i) row h))

  -- the entry is in none of the m rows
  pub entry_elsewhere : ((i : ℕ) → i < m → from + i ≡ row → ⊥) → AddedEntry from m row cell v t t
  entry_elsewhere h i p = other_row i (h i p)

  -- it is in one of them
  pub entry_here : (k : ℕ) → row ≡ from + k → k < length t → (y : Float) → y ≡ plus_square true cell v (get_or t k nan)
      → AddedEntry from m row cell v t (set t k y)
  entry_here k e l y f i p =
      by_cases (ℕ_discrete i k)
      (λ d. subst (λ (j : ℕ). get_or (set t k y) j nan ≡ plus_square (eqb (from + j) row) cell v (get_or t j nan)) (sym d)
      (get_or-set_same t k y nan l ∙ f ∙ ap (λ (b : Bool). plus_square b cell v (get_or t k nan)) (sym (eq-eqb (from + k) row (sym e)))))
      (λ d. get_or-set_other t k i y nan d ∙ other_row i (λ c. d (omega arith)))

module _ (a : Block) (src : ℕ) (row : ℕ → ℕ) (w : List Float) (from m x : ℕ) (here : x < a.cols) (fits : a.at + a.cols ≤ length w) (fits-src : src + a.cols ≤ length w) where
  abbrev s : Shape
  s = entries a.cols row

  -- the entry of column x, read for any row
  read_entries : (b r : ℕ) → b + a.cols ≤ length w → get_or w (b + x) nan ≡ block b s w r x
  read_entries b r h =
      read_block s b w (row x) x (b + x) (rw (lt-ltb, eq-eqb (row x) (row x) refl)) (omega (arith, start_single a.cols)) (omega (arith, start_single x))

  pub entry_added : (t t' : List Float) (k : ℕ) → k ≡ row x → AddedEntry from m k (get_or w (src + x) nan) (get_or w (a.at + x) nan) t t'
      → Added (as_entries row a) src w from m x t t'
  entry_added t t' k e so i h =
      let y : Float = get_or t i nan in
      let r : ℕ = from + i in
      so i h ∙ ap (λ (j : ℕ). plus_square (eqb r j) (get_or w (src + x) nan) (get_or w (a.at + x) nan) y) e
      ∙ ap₂ (λ (c v : Float). plus_square (eqb r (row x)) c v y) (read_entries src r fits-src) (read_entries a.at r fits)
      ∙ ap (λ (b : Bool). plus_square (b && eqb r (row x)) (block src s w r x) (block a.at s w r x) y) (sym (lt-ltb x a.cols here))

-- The rows of a diagonal, subtracted from some at a time: those before are done, those behind are as they were.
use Prim.Native.Nat.{ℕ, zero, suc, ◌+◌, ◌≤◌, ◌<◌}
use mathlib.Core.Path.{◌≡◌, sym, ap, ap₂, subst, ◌∙◌}
use mathlib.Core.Bool.{◌&&◌, not}
use mathlib.Core.List.{List, [], ◌∷◌, ◌++◌, append-nil, append_assoc}
use mathlib.Core.Logic.{inl, inr, ⊎_elim}
use native.Mathlib.Nat.{add-zero, zero-add, add-suc}
use native.Mathlib.Omega.{arith}
use lib.ListN.{length, get_or}
use lib.Ieee.{Float, nan}
use Rattle.storage.specs.Runs.{tab}
use Rattle.storage.specs.Shape.{diagonal, has_cell, size_of, cell, runs}
use Rattle.storage.specs.Part.{part, store}
use Rattle.storage.specs.declared.Block.{Block}
use Rattle.storage.specs.Placed.{Placed, as_diagonal, Lies, Apart, read, put}
use Rattle.storage.proofs.Starts.{start_single}
use Rattle.storage.proofs.Cells.{length_tab, tab_ext}
use Rattle.storage.proofs.Parts.{part_else, store_else, store_more, store_nil}
use Rattle.storage.proofs.Blocks.{fill_diagonal}
use Rattle.rules.specs.Arithmetic.{ieee}
use Rattle.rules.specs.Sums.{sum_from}
use Rattle.rules.specs.Steps.{subtract_diagonal}
use Rattle.block_runs.proofs.blocks.Laws.{read_block, has_diagonal}
use Rattle.schur.specs.rank_diagonal.Diagonal.{loaded}
use Rattle.schur.specs.rank_diagonal.Rows.{Summed, subtract_each, subtract_rows, pivot, done_rows}

-- n cells and m more
tab_add : (n m : ℕ) (f : ℕ → Float) → tab n f ++ tab m (λ i. f (n + i)) ≡ tab (n + m) f
unfolding tab
tab_add n zero f = append-nil (tab n f) ∙ ap (λ (k : ℕ). tab k f) (sym (add-zero n))
tab_add n (suc m) f =
    sym (append_assoc (tab n f) (tab m (λ i. f (n + i))) (f (n + m) ∷ []))
    ∙ ap (λ (l : List Float). l ++ (f (n + m) ∷ [])) (tab_add n m f) ∙ ap (λ (k : ℕ). tab k f) (sym (add-suc n m))

-- the rows less their sums, once the sums are over all columns
pub each_row : (t : Block) (p : Placed) (src from m : ℕ) (w sums : List Float) → Summed p src w from m (runs p.shape) sums
    → subtract_each (t.at + from) m sums w ≡ subtract_rows t p src from m w
each_row t p src from m w sums so =
    ap (λ (l : List Float). store (t.at + from) l w)
    (tab_ext m _ _ (λ i h. ap (ieee.minus (get_or w (t.at + from + i) nan)) (so i h)))

module _ (t : Block) (p : Placed) (src : ℕ) (w₀ : List Float) where
  abbrev new : ℕ → Float
  new = pivot t p src w₀

  pub rows_none : w₀ ≡ done_rows t p src 0 w₀
  unfolding tab
  rows_none = sym (store_nil t.at w₀)

  pub rows_all : (w : List Float) → w ≡ done_rows t p src t.rows w₀
      → w ≡ put (as_diagonal t) (subtract_diagonal ieee (loaded p.shape src w₀) (read (as_diagonal t) w₀) (read p w₀) (runs p.shape)) w₀
  rows_all w h = h ∙ ap (λ (l : List Float). store t.at l w₀) (sym (fill_diagonal t.rows _))

  module _ (fits : Lies (length w₀) (as_diagonal t)) (apart : Apart (as_diagonal t) p) (apart-src : Apart (as_diagonal t) (record { at = src; shape = p.shape })) where
    module _ (from m : ℕ) (left : from + m ≤ t.rows) (w : List Float) (so : w ≡ done_rows t p src from w₀) where
      long : length (tab from new) ≡ from
      long = length_tab from new

      size : size_of (diagonal t.rows) ≡ t.rows
      size = start_single t.rows

      -- a block that lies apart is read as it was
      same : (q : Placed) → Apart (as_diagonal t) q → read q w ≡ read q w₀
      same q h =
          ap (λ (l : List Float). cell ieee.zero q.shape l)
          (ap (part q.at (size_of q.shape)) so
          ∙ part_else t.at (tab from new) w₀ (omega (arith, long, size)) q.at (size_of q.shape) (⊎_elim (λ k. inr (omega (arith, long, size))) (λ k. inl k) h))

      -- a pivot that is not done yet is read as it was
      own : (i : ℕ) → i < m → get_or w (t.at + from + i) nan ≡ read (as_diagonal t) w₀ (from + i) (from + i)
      own i h =
          ap (λ (l : List Float). get_or l (t.at + from + i) nan) so
          ∙ store_else t.at (tab from new) w₀ (omega (arith, long, size)) nan (t.at + from + i) (inr (omega (arith, long)))
          ∙ read_block (diagonal t.rows) t.at w₀ (from + i) (from + i) (t.at + from + i) (has_diagonal t.rows (from + i) (omega arith)) fits
          (omega (arith, start_single (from + i)))

      pub rows_more : (w' : List Float) → w' ≡ subtract_rows t p src from m w → w' ≡ done_rows t p src (from + m) w₀
      rows_more w' e =
          e
          ∙ ap (λ (l : List Float). store (t.at + from) l w)
          (tab_ext m _ (λ i. new (from + i))
          (λ i h. ap₂ ieee.minus (own i h)
          (ap₂ (λ (l b : ℕ → ℕ → Float). sum_from ieee ieee.zero (λ x. has_cell p.shape (from + i) x && not (ieee.null (l (from + i) x))) (b (from + i)) (b (from + i)) (runs p.shape))
          (same (record { at = src; shape = p.shape }) apart-src) (same p apart))))
          ∙ ap₂ (λ (k : ℕ) (l : List Float). store (t.at + k) (tab m (λ i. new (from + i))) l) (sym long) so
          ∙ store_more t.at (tab from new) w₀ (omega (arith, long, size)) (tab m (λ i. new (from + i)))
          ∙ ap (λ (l : List Float). store t.at l w₀) (tab_add from m new)

    -- all rows at once
    pub rows_once : (sums : List Float) → Summed p src w₀ 0 t.rows (runs p.shape) sums → (w : List Float) → w ≡ subtract_each t.at t.rows sums w₀
        → w ≡ put (as_diagonal t) (subtract_diagonal ieee (loaded p.shape src w₀) (read (as_diagonal t) w₀) (read p w₀) (runs p.shape)) w₀
    rows_once sums so w e =
        rows_all w
        (subst (λ (k : ℕ). w ≡ done_rows t p src k w₀) (zero-add t.rows)
        (rows_more 0 t.rows (omega arith) w₀ rows_none w
        (e ∙ ap (λ (k : ℕ). subtract_each k t.rows sums w₀) (sym (add-zero t.at)) ∙ each_row t p src 0 t.rows w₀ sums so)))

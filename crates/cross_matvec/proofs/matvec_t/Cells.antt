-- What a product in one list leaves, double by double.
use Prim.Native.Nat.{ℕ, ◌+◌, ◌*◌, ◌≤◌, ◌<◌}
use mathlib.Core.Path.{◌≡◌, refl, sym, ap, ap₂, ◌∙◌}
use mathlib.Core.List.{List}
use mathlib.Core.Logic.{◌⊎◌, inl, inr, ⊎_elim}
use native.Mathlib.Omega.{arith}
use lib.ListN.{length, get_or}
use lib.Ieee.{Float}
use Rattle.storage.specs.Runs.{tab}
use Rattle.storage.specs.Shape.{columns}
use Rattle.storage.specs.Part.{part}
use Rattle.storage.specs.declared.Block.{Block}
use Rattle.storage.specs.Placed.{as_columns, read}
use Rattle.storage.proofs.Starts.{start_dense}
use Rattle.storage.proofs.Cells.{length_tab}
use Rattle.storage.proofs.Parts.{length_store, part_else, get_or_part}
use Rattle.storage.proofs.Blocks.{cell_part}
use Rattle.rules.specs.Arithmetic.{ieee}
use Rattle.rules.specs.Sums.{dot}
use Rattle.rules.specs.Cholesky.{at}
use Rattle.rules.specs.Solves.{matvec_t_sub}
use Rattle.block_runs.specs.blocks.Blocks.{entry}
use Rattle.block_runs.proofs.blocks.Laws.{has_dense}
use Rattle.block_runs.specs.axpy.Axpy.{at as double}
use Rattle.block_runs.proofs.axpy.Sums.{sum_along, along_ext, along_swap, read_run}
use Rattle.cross_matvec.specs.Products.{subtracted_product_t, column_sum}
use Rattle.cross_matvec.proofs.Vectors.{read_entry, run_else}
use Rattle.cross_matvec.proofs.Dense.{column_sum_lem}

-- a sum of products is the same whichever factors come first
pub dot_swap : (a b : ℕ → Float) (n : ℕ) → dot ieee a b n ≡ dot ieee b a n
dot_swap a b n = sym (sum_along ieee.zero a b n) ∙ along_swap ieee.plus ieee.zero a b n ∙ sum_along ieee.zero b a n

-- the sum of a column, by the lists that lie there
pub sum_lists : (v : List Float) (p z n : ℕ) (x u : List Float) → p + n ≤ length v → z + n ≤ length v → part p n v ≡ x → part z n v ≡ u
    → column_sum v p v z n ≡ dot ieee (at ieee x) (at ieee u) n
sum_lists v p z n x u room room' is is' =
    column_sum_lem v p v z n (at ieee x) (at ieee u) (λ i l. read_entry p n v i l room ∙ ap (λ (y : List Float). at ieee y i) is)
    (λ i l. read_entry z n v i l room' ∙ ap (λ (y : List Float). at ieee y i) is')

module _ (to z : ℕ) (a : Block) (v v' : List Float) (fits : to + a.cols ≤ length v) (so : v' ≡ subtracted_product_t to z a v v) where
  abbrev cells : ℕ → Float
  cells = matvec_t_sub ieee (read (as_columns a) v) (entry z a.rows v) (entry to a.cols v) a.rows

  long : length (tab a.cols cells) ≡ a.cols
  long = length_tab a.cols cells

  pub product_long : length v' ≡ length v
  product_long = ap length so ∙ length_store to (tab a.cols cells) v (omega (arith, long))

  -- what lies apart is as it was
  pub product_else : (k : ℕ) → (k < to) ⊎ (to + a.cols ≤ k) → double v' k ≡ double v k
  product_else k h = ap (λ (l : List Float). double l k) so ∙ run_else to a.cols cells v fits k h

  pub product_part : (b n : ℕ) → (b + n ≤ to) ⊎ (to + a.cols ≤ b) → part b n v' ≡ part b n v
  product_part b n h = ap (part b n) so ∙ part_else to (tab a.cols cells) v (omega (arith, long)) b n (⊎_elim (λ l. inl l) (λ l. inr (omega (arith, long))) h)

  -- an entry is less the column's list times the vector's
  pub product_cell : (c : ℕ) → c < a.cols → (x u : List Float) → part (a.at + c * a.rows) a.rows v ≡ x → part z a.rows v ≡ u
      → double v' (to + c) ≡ ieee.minus (double v (to + c)) (dot ieee (at ieee x) (at ieee u) a.rows)
  product_cell c h x u is is' =
      ap (λ (l : List Float). double l (to + c)) so
      ∙ read_run to a.cols cells v fits c (to + c) h refl
      ∙ ap₂ ieee.minus (sym (read_entry to a.cols v c h fits))
      (sym (sum_along ieee.zero (λ r. read (as_columns a) v r c) (entry z a.rows v) a.rows)
      ∙ along_ext ieee.plus _ _ _ _ _ _ a.rows refl
      (λ r l. cell_part ieee.zero (columns a.rows a.cols) a.at v r c (has_dense a.rows a.cols r c l h)
      ∙ ap (λ (k : ℕ). get_or v k ieee.zero) (omega (arith, start_dense a.rows c))
      ∙ sym (get_or_part (a.at + c * a.rows) a.rows v r ieee.zero l)
      ∙ ap (λ (y : List Float). at ieee y r) is)
      (λ r l. ap (λ (y : List Float). at ieee y r) is')
      ∙ sum_along ieee.zero (at ieee x) (at ieee u) a.rows)

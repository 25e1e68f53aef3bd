-- Vectors read while a loop writes another.
use Prim.Native.Nat.{ℕ, ◌+◌, ◌≤◌, ◌<◌}
use mathlib.Core.Path.{◌≡◌, refl, sym, ap, ap₂, ◌∙◌}
use mathlib.Core.List.{List}
use mathlib.Core.Logic.{◌⊎◌, inl, inr, ⊎_elim, ⊎_swap}
use native.Mathlib.Omega.{arith}
use lib.ListN.{length, set}
use lib.Ieee.{Float, nan}
use Rattle.storage.specs.Runs.{tab}
use Rattle.storage.proofs.Cells.{length_tab, any_default}
use Rattle.storage.proofs.Parts.{get_or_part, store_else}
use Rattle.storage.proofs.Filling.{Filling, filling_apart, filling_next}
use Rattle.rules.specs.Arithmetic.{ieee}
use Rattle.rules.specs.Solves.{sparse_matvec_t_sub}
use Rattle.block_runs.specs.blocks.Blocks.{entry}
use Rattle.block_runs.specs.axpy.Axpy.{at, run}
use Rattle.storage.specs.declared.Block.{Block}
use Rattle.cross_matvec.specs.Products.{Sides}

-- a double read at its place is the vector's entry
pub read_entry : (off n : ℕ) (w : List Float) (i : ℕ) → i < n → off + n ≤ length w → at w (off + i) ≡ entry off n w i
read_entry off n w i h fits = any_default w (off + i) nan ieee.zero (omega arith) ∙ sym (get_or_part off n w i ieee.zero h)

-- a double before or behind a run that is written
pub run_else : (to n : ℕ) (g : ℕ → Float) (w : List Float) → to + n ≤ length w → (k : ℕ) → (k < to) ⊎ (to + n ≤ k) → at (run to n g w) k ≡ at w k
run_else to n g w fits k h =
    let long : length (tab n g) ≡ n = length_tab n g in
    store_else to (tab n g) w (omega arith) nan k (⊎_elim (λ l. inl l) (λ l. inr (omega arith)) h)

-- a vector that lies apart from those that are written is read as it was
module _ (off n : ℕ) (g : ℕ → Float) (w₀ : List Float) (fits : off + n ≤ length w₀) (i : ℕ) (here : i ≤ n) (w : List Float) (so : w ≡ run off i g w₀)
    (z m : ℕ) (apart : (off + n ≤ z) ⊎ (z + m ≤ off)) (j : ℕ) (l : j < m) where
  same_read : at w (z + j) ≡ at w₀ (z + j)
  same_read =
      ap (λ (x : List Float). at x (z + j)) so
      ∙ run_else off i g w₀ (omega arith) (z + j) (⊎_elim (λ h. inr (omega arith)) (λ h. inl (omega arith)) apart)

  pub same_entry : z + m ≤ length w₀ → at w (z + j) ≡ entry z m w₀ j
  same_entry room = same_read ∙ read_entry z m w₀ j l room

-- one entry more less the transpose of a sparse block
module _ (to z : ℕ) (a : Block) (row : ℕ → ℕ) (w v₀ : List Float) (sides : Sides (length v₀) z to a) (fits : a.at + a.cols ≤ length w) where
  abbrev rule : ℕ → Float
  rule = sparse_matvec_t_sub ieee row (entry a.at a.cols w) (entry z a.rows v₀) (entry to a.cols v₀)

  pub sparse_subtracted : {c : ℕ} {v : List Float} → Filling rule to a.cols v₀ v c → c < a.cols → (r : ℕ) → r < a.rows → r ≡ row c
      → Filling rule to a.cols v₀ (set v (to + c) (ieee.minus (at v (to + c)) (ieee.plus ieee.zero (ieee.times (at w (a.at + c)) (at v (z + r)))))) (c + 1)
  sparse_subtracted {c} {v} h more r below e =
      filling_next h (λ (s : Float). ieee.minus s (ieee.plus ieee.zero (ieee.times (at w (a.at + c)) (at v (z + r))))) nan refl more
      (ap₂ (λ (s t : Float). ieee.minus s (ieee.plus ieee.zero t)) (read_entry to a.cols v₀ c more sides.cols)
      (ap₂ ieee.times (read_entry a.at a.cols w c more fits)
      (filling_apart h nan z a.rows (⊎_swap sides.apart) r below ∙ read_entry z a.rows v₀ r below sides.rows ∙ ap (entry z a.rows v₀) e)))

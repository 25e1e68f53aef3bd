-- Dense blocks times a vector: row by row the sums lie side by side, column by column each is made by itself.
use Prim.Native.Nat.{ℕ, ◌+◌, ◌≤◌, ◌<◌}
use mathlib.Core.Path.{◌≡◌, refl, sym, ap, ap₂, ◌∙◌}
use mathlib.Core.List.{List}
use mathlib.Core.Logic.{inr, ⊎_swap}
use native.Mathlib.Omega.{arith}
use native.Mathlib.Numerals.{add-one}
use Rattle.std.specs.Prelude.{Option, None, Some, unwrap_or}
use Rattle.std.specs.Borrow.{Bor}
use lib.ListN.{length}
use lib.Ieee.{Float, nan}
use Rattle.storage.specs.Runs.{start, dense}
use Rattle.storage.specs.Shape.{columns, size_of}
use Rattle.storage.specs.Part.{store}
use Rattle.storage.specs.declared.Block.{Block}
use Rattle.storage.specs.Placed.{Lies, as_columns, read}
use Rattle.storage.proofs.Starts.{start_dense, start_below}
use Rattle.storage.proofs.Cells.{tab_ext}
use Rattle.storage.proofs.Filling.{Filling, filling_else, filling_apart, filling_run}
use Rattle.rules.specs.Arithmetic.{ieee}
use Rattle.rules.specs.Sums.{dot}
use Rattle.block_runs.specs.blocks.Blocks.{block, entry}
use Rattle.block_runs.proofs.blocks.Laws.{read_block, has_dense}
use Rattle.block_runs.specs.axpy.Axpy.{at, run, along, products}
use Rattle.block_runs.proofs.axpy.Sums.{sum_along, along_ext, start_add, summed}
use Rattle.cross_matvec.specs.Products.{Sides, held, ClearIn, subtracted_product, subtracted_product_t, column_sum, minus_column, subtract_columns}
use Rattle.cross_matvec.proofs.Vectors.{read_entry}

-- the vector at z is the one row of a block
pub one_row : (z n : ℕ) (v : List Float) → z + n ≤ length v → (x : ℕ) → x < n → block z (columns 1 n) v 0 x ≡ entry z n v x
one_row z n v fits x l =
    sym (read_block (columns 1 n) z v 0 x (z + x) (has_dense 1 n 0 x (omega arith) l) (omega (arith, start_dense 1 n)) (omega (arith, start_dense 1 x)))
    ∙ read_entry z n v x l fits

-- ---- going forward
module _ (to z : ℕ) (a : Block) (w v v' acc acc₁ acc₂ : List Float) (room : a.rows ≤ length acc) (sides : Sides (length v) to z a) where
  pub sums_subtracted : acc₁ ≡ run 0 a.rows (λ i. ieee.zero) acc → acc₂ ≡ products ieee.plus acc₁ a.rows w a.at a.rows v z 1 0 a.cols
      → v' ≡ run to a.rows (λ i. ieee.minus (at v (to + i)) (at acc₂ i)) v → v' ≡ subtracted_product to z a w v
  sums_subtracted first then so =
      so
      ∙ ap (λ (l : List Float). store to l v)
      (tab_ext a.rows _ _
      (λ i l.
      ap₂ ieee.minus (read_entry to a.rows v i l sides.rows)
      (summed ieee.plus a.rows w a.at a.rows v z 1 0 a.cols acc acc₁ acc₂ (λ x. ieee.zero) room first then i l
      ∙ along_ext ieee.plus _ _ _ _ _ _ a.cols refl (λ x m. refl) (one_row z a.cols v sides.cols)
      ∙ sum_along ieee.zero (read (as_columns a) w i) (entry z a.cols v) a.cols)))

-- a column times a vector is the rule's sum of what they hold
pub column_sum_lem : (w : List Float) (p : ℕ) (v : List Float) (z n : ℕ) (a b : ℕ → Float) → ((i : ℕ) → i < n → at w (p + i) ≡ a i) → ((i : ℕ) → i < n → at v (z + i) ≡ b i)
    → column_sum w p v z n ≡ dot ieee a b n
column_sum_lem w p v z n a b f g = along_ext ieee.plus ieee.zero ieee.zero _ _ _ _ n refl f g ∙ sum_along ieee.zero a b n

-- ---- going backward
-- one product more in the sum of a column
pub sum_more : (w : List Float) (p : ℕ) (v : List Float) (z r k : ℕ) (s : Float) → s ≡ column_sum w p v z r → k ≡ p + r
    → ieee.plus s (ieee.times (at w k) (at v (z + r))) ≡ column_sum w p v z (r + 1)
unfolding along
sum_more w p v z r k s so e = rw (add-one, e) (ap (λ (x : Float). ieee.plus x (ieee.times (at w (p + r)) (at v (z + r)))) so)

-- entries less sums that are those of their columns
pub columns_subtracted : (to p rows z n : ℕ) (w v v' s : List Float) → ((j : ℕ) → j < n → at s j ≡ column_sum w (p + start (dense rows) j) v z rows)
    → v' ≡ run to n (λ i. ieee.minus (at v (to + i)) (at s i)) v → v' ≡ subtract_columns to n p rows z w v
columns_subtracted to p rows z n w v v' s is so =
    so ∙ ap (λ (l : List Float). store to l v) (tab_ext n _ _ (λ i l. ap (ieee.minus (at v (to + i))) (is i l)))

-- a block is as it was while the vector that is clear of it is written
pub held_same : {f : ℕ → Float} {to : ℕ} (a : Block) {v₀ v : List Float} {c : ℕ} (doubles : Option (Bor (List Float))) → ClearIn doubles to a → Filling f to a.cols v₀ v c
    → (i : ℕ) → i < size_of (columns a.rows a.cols) → at (held doubles v) (a.at + i) ≡ at (held doubles v₀) (a.at + i)
held_same a None clear e = filling_apart e nan _ _ clear
held_same a (Some w) clear e = λ i l. refl

-- the list that is read where there may be none of its own
pub held_read : (doubles : Option (Bor (List Float))) (v : Bor (List Float)) → (unwrap_or doubles v).now ≡ held doubles v.now
held_read None v = refl
held_read (Some w) v = refl

pub held_long : (doubles : Option (Bor (List Float))) (v v₀ : List Float) → length v ≡ length v₀ → length (held doubles v) ≡ length (held doubles v₀)
held_long None v v₀ e = e
held_long (Some w) v v₀ e = refl

module _ (to z : ℕ) (a : Block) (w v₀ : List Float) (sides : Sides (length v₀) z to a) where
  -- c columns and k more; the block may lie in the list that is written, if it stays as it was
  pub columns_more : {c : ℕ} {v₁ v₂ : List Float} (w₁ : List Float) (k : ℕ) → Filling (minus_column to a.at a.rows z w v₀) to a.cols v₀ v₁ c → c + k ≤ a.cols
      → ((i : ℕ) → i < size_of (columns a.rows a.cols) → at w₁ (a.at + i) ≡ at w (a.at + i))
      → (p : ℕ) → p ≡ a.at + start (dense a.rows) c → v₂ ≡ subtract_columns (to + c) k p a.rows z w₁ v₁
      → Filling (minus_column to a.at a.rows z w v₀) to a.cols v₀ v₂ (c + k)
  columns_more {c} {v₁} {v₂} w₁ k h top same p d then =
      filling_run h k (minus_column (to + c) p a.rows z w₁ v₁) (to + c) v₂ refl top
      (λ i l.
      ap₂ ieee.minus (filling_else h nan (to + c + i) (inr (omega arith)) ∙ ap (at v₀) (omega arith))
      (along_ext ieee.plus _ _ _ _ _ _ a.rows refl
      (λ r m. ap (at w₁) (omega (arith, start_add a.rows c i))
      ∙ same (start (dense a.rows) (c + i) + r) (omega (arith, start_below (dense a.rows) (c + i) a.cols (omega arith))) ∙ ap (at w) (omega arith))
      (filling_apart h nan z a.rows (⊎_swap sides.apart))))
      then

  -- each entry is the rule's
  pub columns_done : Lies (length w) (as_columns a) → subtract_columns to a.cols a.at a.rows z w v₀ ≡ subtracted_product_t to z a w v₀
  columns_done room =
      ap (λ (l : List Float). store to l v₀)
      (tab_ext a.cols _ _
      (λ c l.
      ap₂ ieee.minus (read_entry to a.cols v₀ c l sides.cols)
      (column_sum_lem w (a.at + start (dense a.rows) c) v₀ z a.rows (λ r. read (as_columns a) w r c) (entry z a.rows v₀)
      (λ r m. read_block (columns a.rows a.cols) a.at w r c (a.at + start (dense a.rows) c + r) (has_dense a.rows a.cols r c m l) room (omega arith))
      (λ r m. read_entry z a.rows v₀ r m sides.rows))))

-- The runs of the steps S.
use Prim.Native.Nat.{ℕ, ◌+◌, ◌≤◌, ◌<◌}
use mathlib.Core.Path.{◌≡◌, sym, ap, ◌∙◌}
use mathlib.Core.List.{List}
use mathlib.Core.Logic.{inl, inr, ⊎_elim}
use native.Mathlib.Omega.{arith}
use lib.ListN.{length}
use lib.Ieee.{Float}
use Rattle.storage.specs.Runs.{tab, dense}
use Rattle.storage.specs.Shape.{columns, size_of, cell}
use Rattle.storage.specs.Part.{store}
use Rattle.storage.proofs.Starts.{start_dense, start_le}
use Rattle.storage.proofs.Cells.{tab_ext, length_tab}
use Rattle.storage.proofs.Parts.{part_else}
use Rattle.rules.specs.Arithmetic.{ieee}
use Rattle.rules.specs.Sums.{dot, chain}
use Rattle.storage.specs.declared.Block.{Block}
use Rattle.storage.specs.Placed.{Placed, as_columns, Lies, Apart, Within, read}
use Rattle.block_runs.specs.blocks.Blocks.{block}
use Rattle.block_runs.proofs.blocks.Going.{Going}
use Rattle.block_runs.specs.axpy.Axpy.{at, run, along, products}
use Rattle.block_runs.proofs.axpy.Sums.{sum_along, subtract_along, along_swap, summed}
use Rattle.schur.specs.Schur.{subtract_sums, subtract_products}

-- a block of as many columns lies there too
pub lies_as : (n m : ℕ) (b : Block) → b.cols ≡ m → Lies n (as_columns b) → b.at + size_of (columns b.rows m) ≤ n
lies_as n m b e h = rw e at h

-- there is room for two runs more of one length
pub room_for_two : {t : Block} {f : ℕ → ℕ → Float} {w₀ : List Float} {j to : ℕ} {w : List Float} → Going (as_columns t) f w₀ j to w → j + 2 ≤ t.cols
    → Within (as_columns t) to (t.rows + t.rows)
room_for_two {t = t} {j = j} e more =
    (omega (arith, e.place), omega (arith, e.place, start_dense t.rows j, start_dense t.rows (j + 2), start_le (dense t.rows) (j + 2) t.cols more))

-- what lies apart from a block is read as it was when a run of the block is written
pub same_apart : (p q : Placed) (to n : ℕ) (g : ℕ → Float) (w : List Float) → Within p to n → Lies (length w) p → Apart p q → read q (run to n g w) ≡ read q w
same_apart p q to n g w (low, high) fits apart =
    ap (cell ieee.zero q.shape)
    (part_else to (tab n g) w (omega (arith, length_tab n g)) q.at (size_of q.shape)
    (⊎_elim (λ h. inr (omega (arith, length_tab n g))) (λ h. inl (omega arith)) apart))

-- ---- a cell less its products: of two rows of one block the later comes first in the rule
abbrev pub subtract_sum : ℕ → Float → (ℕ → Float) → (ℕ → Float) → Float
subtract_sum n z x y = ieee.minus z (along ieee.plus ieee.zero x y n)

abbrev pub subtract_each : ℕ → Float → (ℕ → Float) → (ℕ → Float) → Float
subtract_each n z x y = along ieee.minus z x y n

pub sums_dot : (n : ℕ) (z : Float) (x y : ℕ → Float) → subtract_sum n z x y ≡ ieee.minus z (dot ieee x y n)
sums_dot n z x y = ap (ieee.minus z) (sum_along ieee.zero x y n)

pub sums_swapped : (n : ℕ) (z : Float) (x y : ℕ → Float) → subtract_sum n z x y ≡ ieee.minus z (dot ieee y x n)
sums_swapped n z x y = ap (ieee.minus z) (along_swap ieee.plus ieee.zero x y n) ∙ sums_dot n z y x

pub products_swapped : (n : ℕ) (z : Float) (x y : ℕ → Float) → subtract_each n z x y ≡ chain ieee z y x n
products_swapped n z x y = along_swap ieee.minus z x y n ∙ subtract_along z y x n

-- a run, as the functions of single runs make it
module _ (w w' acc acc₁ acc₂ : List Float) (to n : ℕ) (a b : Block) (r : ℕ) (room : n ≤ length acc) (e : b.cols ≡ a.cols) where
  taken : (f : Float → Float → Float) (z : ℕ → Float) → acc₁ ≡ run 0 n z acc → acc₂ ≡ products f acc₁ n w a.at a.rows w b.at b.rows r a.cols
      → (i : ℕ) → i < n → at acc₂ i ≡ along f (z i) (read (as_columns a) w i) (read (as_columns b) w r) a.cols
  taken f z first then i l =
      summed f n w a.at a.rows w b.at b.rows r a.cols acc acc₁ acc₂ z room first then i l
      ∙ ap (λ (x : ℕ). along f (z i) (read (as_columns a) w i) (block b.at (columns b.rows x) w r) a.cols) (sym e)

  pub sums_subtracted : acc₁ ≡ run 0 n (λ i. ieee.zero) acc → acc₂ ≡ products ieee.plus acc₁ n w a.at a.rows w b.at b.rows r a.cols
      → w' ≡ run to n (λ i. ieee.minus (at w (to + i)) (at acc₂ i)) w → w' ≡ subtract_sums to n a b r w
  sums_subtracted first then so =
      so ∙ ap (λ (l : List Float). store to l w) (tab_ext n _ _ (λ i l. ap (ieee.minus (at w (to + i))) (taken ieee.plus (λ x. ieee.zero) first then i l)))

  pub products_put : acc₁ ≡ run 0 n (λ i. at w (to + i)) acc → acc₂ ≡ products ieee.minus acc₁ n w a.at a.rows w b.at b.rows r a.cols
      → w' ≡ run to n (at acc₂) w → w' ≡ subtract_products to n a b r w
  products_put first then so =
      so ∙ ap (λ (l : List Float). store to l w) (tab_ext n _ _ (taken ieee.minus (λ i. at w (to + i)) first then))

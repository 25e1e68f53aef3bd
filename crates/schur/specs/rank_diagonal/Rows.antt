-- How far S of a diagonal has come: the sums of some rows over the columns so far, and the rows that are done.
use Rattle.std.specs.Prelude.{ℕ, ◌+◌, ◌<◌, ◌≡◌, Bool, ◌&&◌, not, cond, List, eqb, get_or, Float}
use Rattle.std.specs.Float.{nan}
use Rattle.storage.specs.Runs.{tab}
use Rattle.storage.specs.Shape.{has_cell, runs}
use Rattle.storage.specs.Part.{store}
use Rattle.storage.specs.declared.Block.{Block}
use Rattle.storage.specs.Placed.{Placed, as_diagonal, read}
use Rattle.rules.specs.Arithmetic.{ieee}
use Rattle.rules.specs.Sums.{sum_from}
use Rattle.rules.specs.Steps.{subtract_diagonal}
use Rattle.block_runs.specs.blocks.Blocks.{block}
use Rattle.schur.specs.rank_diagonal.Diagonal.{loaded}

-- y plus the square of v, if there is such a cell and it was not loaded as ±0
abbrev pub plus_square : (there : Bool) (cell v y : Float) → Float
plus_square there cell v y = cond (there && not (ieee.null cell)) (ieee.plus y (ieee.times v v)) y

-- the sum of row r of block p, which was loaded from `src`, over the first x columns
abbrev pub sum_of : (p : Placed) (src : ℕ) → List Float → (r x : ℕ) → Float
sum_of p src w r x = sum_from ieee ieee.zero (loaded p.shape src w r) (read p w r) (read p w r) x

-- t holds 0.0 for each of m rows
abbrev pub Zeros : (m : ℕ) (t : List Float) → Type 0
Zeros m t = (i : ℕ) → i < m → get_or t i nan ≡ ieee.zero

-- t holds the sums of m rows, row `from` first, over the first x columns
abbrev pub Summed : (p : Placed) (src : ℕ) (w : List Float) (from m x : ℕ) (t : List Float) → Type 0
Summed p src w from m x t = (i : ℕ) → i < m → get_or t i nan ≡ sum_of p src w (from + i) x

-- y with cell (r, x) counted
abbrev pub with_cell : (p : Placed) (src : ℕ) → List Float → (r x : ℕ) → Float → Float
with_cell p src w r x y = plus_square (has_cell p.shape r x) (block src p.shape w r x) (read p w r x) y

-- t' has column x more than t
abbrev pub Added : (p : Placed) (src : ℕ) (w : List Float) (from m x : ℕ) (t t' : List Float) → Type 0
Added p src w from m x t t' = (i : ℕ) → i < m → get_or t' i nan ≡ with_cell p src w (from + i) x (get_or t i nan)

-- t' has the square of v more than t in its row, if that is among the m rows and the loaded cell is not ±0
abbrev pub AddedEntry : (from m row : ℕ) (cell v : Float) (t t' : List Float) → Type 0
AddedEntry from m row cell v t t' = (i : ℕ) → i < m → get_or t' i nan ≡ plus_square (eqb (from + i) row) cell v (get_or t i nan)

-- the m doubles at `at` less those of t
abbrev pub subtract_each : (at m : ℕ) (t : List Float) → List Float → List Float
subtract_each at m t w = store at (tab m (λ i. ieee.minus (get_or w (at + i) nan) (get_or t i nan))) w

-- m pivots of the diagonal t, row `from` first, less their sums over all columns of block p
abbrev pub subtract_rows : (t : Block) (p : Placed) (src from m : ℕ) → List Float → List Float
subtract_rows t p src from m w =
    store (t.at + from) (tab m (λ i. ieee.minus (get_or w (t.at + from + i) nan) (sum_of p src w (from + i) (runs p.shape)))) w

-- pivot r of the diagonal t, once its sum is subtracted
abbrev pub pivot : (t : Block) (p : Placed) (src : ℕ) → List Float → ℕ → Float
pivot t p src w r = subtract_diagonal ieee (loaded p.shape src w) (read (as_diagonal t) w) (read p w) (runs p.shape) r r

-- the first m rows are done, all else is as it was
abbrev pub done_rows : (t : Block) (p : Placed) (src m : ℕ) → List Float → List Float
done_rows t p src m w = store t.at (tab m (pivot t p src w)) w

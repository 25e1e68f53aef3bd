-- A loop that writes the runs of a block of the list, one behind the other.
use Prim.Native.Nat.{ℕ, ◌+◌, ◌≤◌, ◌<◌}
use mathlib.Core.Path.{◌≡◌, refl, ap, ap₂, ◌∙◌}
use mathlib.Core.List.{List}
use native.Mathlib.Omega.{arith}
use lib.ListN.{length}
use lib.Ieee.{Float}
use Rattle.storage.specs.Runs.{start}
use Rattle.storage.specs.Shape.{Shape, size_of, run_length, runs, row_at, column_at, fill}
use Rattle.storage.specs.Placed.{Placed, Lies, Apart, Within, read, put}
use Rattle.storage.proofs.Starts.{start_below}
use Rattle.block_runs.specs.axpy.Axpy.{at, run}
use Rattle.block_runs.proofs.blocks.Laws.{written}
use Rattle.block_runs.proofs.blocks.Runs.{Writing, writing_none, writing_same, writing_more, writing_cell, writing_all}

abbrev by_run : Shape → (ℕ → ℕ → Float) → ℕ → ℕ → Float
by_run s f j i = f (row_at s j i) (column_at s j i)

-- of the runs of block p, j are written by the rule f of row and column, all else is as in w₀, and the next run starts at `to`
pub record Going (p : Placed) (f : ℕ → ℕ → Float) (w₀ : List Float) (j to : ℕ) (w : List Float) : Type 0 where
  pub within : j ≤ runs p.shape
  pub long : length w ≡ length w₀
  pub place : to ≡ p.at + start (run_length p.shape) j
  pub so : Writing p.at (p.at + size_of p.shape) (run_length p.shape) (runs p.shape) (by_run p.shape f) w₀ j (start (run_length p.shape) j) w

of_writing : (p : Placed) (f : ℕ → ℕ → Float) (w₀ : List Float) (j x to : ℕ) (w : List Float)
    → Writing p.at (p.at + size_of p.shape) (run_length p.shape) (runs p.shape) (by_run p.shape f) w₀ j x w → to ≡ p.at + x → Going p f w₀ j to w
of_writing p f w₀ j x to w e h =
    record { within = e.within; long = e.long; place = omega (arith, e.place); so = rw e.place at e }

pub going_none : (p : Placed) (f : ℕ → ℕ → Float) (w₀ : List Float) → Lies (length w₀) p → Going p f w₀ 0 p.at w₀
going_none p f w₀ h = of_writing p f w₀ 0 0 p.at w₀ (writing_none p.at _ (run_length p.shape) (runs p.shape) _ w₀ refl h) (omega arith)

module _ {p : Placed} {f : ℕ → ℕ → Float} {w₀ : List Float} {j to : ℕ} {w : List Float} (e : Going p f w₀ j to w) where
  pub going_all : runs p.shape ≤ j → w ≡ put p f w₀
  unfolding fill
  going_all h = writing_all e.so h

  -- a cell of a written run is the rule's
  pub going_written : (y i : ℕ) → y < j → i < run_length p.shape y → at w (p.at + (start (run_length p.shape) y + i)) ≡ f (row_at p.shape y i) (column_at p.shape y i)
  going_written y i h l =
      let s = e.so in
      written p.at (run_length p.shape) (by_run p.shape f) w₀ (runs p.shape) (omega (arith, s.fits)) j e.within w s.so y i (p.at + (start (run_length p.shape) y + i)) h l refl

  module _ (more : j < runs p.shape) where
    -- the next run lies in the block
    pub going_room : Within p to (run_length p.shape j)
    going_room = (omega (arith, e.place), omega (arith, e.place, start_below (run_length p.shape) j (runs p.shape) more))

    -- its cells are read as they were
    pub going_cell : (i : ℕ) → i < run_length p.shape j → at w (to + i) ≡ read p w₀ (row_at p.shape j i) (column_at p.shape j i)
    going_cell i h = ap (λ (m : ℕ). at w (m + i)) e.place ∙ writing_cell p.shape e.so more i h

    -- and so is a block that lies apart
    pub going_same : (q : Placed) → Apart p q → read q w ≡ read q w₀
    going_same q apart = writing_same e.so more q.at q.shape apart

    -- one run more
    pub going_more : {w' : List Float} {to' : ℕ} (k : ℕ) (g : ℕ → Float) → k ≡ run_length p.shape j → to' ≡ to + k
        → ((i : ℕ) → i < run_length p.shape j → g i ≡ f (row_at p.shape j i) (column_at p.shape j i)) → w' ≡ run to k g w → Going p f w₀ (j + 1) to' w'
    going_more {w'} {to'} k g d next same then =
        of_writing p f w₀ (j + 1) (start (run_length p.shape) j + k) to' w' (writing_more e.so more to k g e.place d refl same then) (omega (arith, e.place))

    -- its cells by F of the cell itself, a row of block a and a row of block b, which lie apart
    pub turn : {w' : List Float} {to' : ℕ} (F : Float → (ℕ → Float) → (ℕ → Float) → Float) (a b : Placed) (k : ℕ) → Apart p a → Apart p b
        → ((i : ℕ) → F (read p w₀ (row_at p.shape j i) (column_at p.shape j i)) (read a w₀ i) (read b w₀ j) ≡ f (row_at p.shape j i) (column_at p.shape j i))
        → k ≡ run_length p.shape j → to' ≡ to + k → w' ≡ run to k (λ i. F (at w (to + i)) (read a w i) (read b w j)) w → Going p f w₀ (j + 1) to' w'
    turn F a b k apart apart' same d next then =
        going_more k _ d next
        (λ i l.
        ap₂ (λ (g h : ℕ → ℕ → Float). F (at w (to + i)) (g i) (h j)) (going_same a apart) (going_same b apart')
        ∙ ap (λ (z : Float). F z (read a w₀ i) (read b w₀ j)) (going_cell i l)
        ∙ same i)
        then

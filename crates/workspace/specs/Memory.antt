-- A workspace in memory: the heading h and the doubles w, the blocks read out of them, and what load and a refused pivot write (document 01, Records 3 to 5).
use Rattle.std.specs.Prelude.{ℕ, ◌-◌, Bool, not, ◌&&◌, List, get_or, drop, replicate, Float}
use Rattle.storage.specs.Shape.{Shape, size_of, has_cell, cell}
use Rattle.storage.specs.Part.{part, store}
use Rattle.rules.specs.Arithmetic.{ieee}
use Rattle.layout.specs.declared.Layout.{Layout}
use Rattle.heading_format.specs.declared.Progress.{Progress}
use Rattle.layout.specs.Shapes.{shape, loaded_shape, loaded_length, loaded_at, theta_at, working_at, sum_at, working_end, doubles_needed, sheet_index}
use Rattle.heading_format.specs.Heading.{progress_numbers, layout_of, entry_row}
use Rattle.heading_format.specs.Parts.{progress_at}

-- what a call leaves
pub record Workspace : Type 0 where
  pub heading : List ℕ
  pub doubles : List Float

-- theta of sorted block j: theta is in sheet order
abbrev pub sorted_theta : Layout → List Float → ℕ → Float
sorted_theta y theta j = get_or theta (sheet_index y j) ieee.zero

-- cell (r, c) of a block with this shape
abbrev pub cell_of : Shape → List Float → ℕ → ℕ → Float
cell_of s l r c = cell ieee.zero s l r c

module _ (h : List ℕ) (w : List Float) where
  -- a loaded and a working block as the list of its doubles
  abbrev pub loaded_block : ℕ → ℕ → List Float
  loaded_block i j = part (loaded_at (layout_of h) i j) (size_of (loaded_shape (layout_of h) (entry_row h) i j)) w

  abbrev pub working_block : ℕ → ℕ → List Float
  working_block i j = part (working_at (layout_of h) i j) (size_of (shape (layout_of h) (entry_row h) i j)) w

  -- cell (r, x) of pair (1,0) was loaded non-zero
  abbrev pub loaded_some : ℕ → ℕ → Bool
  loaded_some r x =
      let s = loaded_shape (layout_of h) (entry_row h) 1 0 in
      has_cell s r x && not (ieee.null (cell_of s (loaded_block 1 0) r x))

  -- theta of sorted block j, as begin kept it
  abbrev pub theta_of : ℕ → Float
  theta_of j = sorted_theta (layout_of h) (drop (theta_at (layout_of h)) w) j

  -- the running sum of the logarithms
  abbrev pub log_sum : Float
  log_sum = get_or w (sum_at (layout_of h)) ieee.zero

-- ---- what is written
-- the heading with a new progress, and nothing else new
abbrev pub heading_with : List ℕ → Progress → List ℕ
heading_with h g = store progress_at (progress_numbers g) h

-- the doubles behind the loaded numbers all +0.0, as load leaves them
unfoldable pub zeros : Layout → List Float
unfolding sum_at
zeros y = replicate (doubles_needed y - loaded_length y) ieee.zero

-- the working doubles all +0.0, as a refused pivot leaves them: theta, the blocks and the sum
unfoldable pub working_zeros : Layout → List Float
unfolding sum_at
working_zeros y = replicate (working_end y - theta_at y) ieee.zero

unfoldable pub cleared : Layout → List Float → List Float
unfolding working_zeros
cleared y w = store (theta_at y) (working_zeros y) w

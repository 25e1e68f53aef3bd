-- A vector of the q rows in sheet order, by its sorted blocks, and what one turn of a solve makes of it (document 01, Record 7).
use Rattle.std.specs.Prelude.{ℕ, suc, ◌+◌, ◌-◌, ◌<◌, ◌≡◌, List, length, drop, Float}
use Rattle.storage.specs.Runs.{tab}
use Rattle.storage.specs.Part.{part, store}
use Rattle.rules.specs.Arithmetic.{ieee}
use Rattle.rules.specs.Cholesky.{at}
use Rattle.layout.specs.declared.Layout.{Layout}
use Rattle.layout.specs.Shapes.{block_rows}
use Rattle.workspace.specs.Memory.{working_block}
use Rattle.workspace.specs.Loaded.{row_start}
use Rattle.profile.specs.Solves.{block_in, factor_shape_of, forward_in, backward_in, subtract_forward, subtract_backward, subtract_first, subtract_later}
use Rattle.profile.specs.Finish.{in_sheet_order}

-- sorted block j of the vector that lies in v from `from` on
abbrev pub block_at : Layout → (from : ℕ) → List Float → ℕ → List Float
block_at y from v j = part (from + row_start y j) (block_rows y j) v

-- all its blocks
unfoldable pub blocks_at : Layout → (from : ℕ) → List Float → List (List Float)
blocks_at y from v = tab y.k (block_at y from v)

-- v with the vector of the sorted blocks l from `from` on
abbrev pub with_vector : Layout → (from : ℕ) → List (List Float) → List Float → List Float
with_vector y from l v = store from (in_sheet_order y l y.k) v

-- v with b for block j of that vector
abbrev pub with_block_at : Layout → (from j : ℕ) → List Float → List Float → List Float
with_block_at y from j b v = store (from + row_start y j) b v

-- as many blocks as the layout has, each with its rows
pub record Sized (y : Layout) (l : List (List Float)) : Type 0 where
  pub count : length l ≡ y.k
  pub each : (j : ℕ) → j < y.k → length (block_in l j) ≡ block_rows y j

module _ (h : List ℕ) (w : List Float) (y : Layout) (from : ℕ) where
  -- going forward: block i less cross block (i, j) times block j
  abbrev pub subtracted_forward : ℕ → ℕ → List Float → List Float
  subtracted_forward i j v =
      with_block_at y from i (tab (block_rows y i) (subtract_forward h w i j (block_at y from v j) (at ieee (block_at y from v i)))) v

  -- going backward: block i less the transpose of cross block (j, i) times block j
  abbrev pub subtracted_backward : ℕ → ℕ → List Float → List Float
  subtracted_backward j i v =
      with_block_at y from i (tab (block_rows y i) (subtract_backward h w j i (block_at y from v j) (at ieee (block_at y from v i)))) v

  -- block i solved with factor i
  abbrev pub solved_forward_in : ℕ → List Float → List Float
  solved_forward_in i v = with_block_at y from i (forward_in (factor_shape_of h w i) (working_block h w i i) (at ieee (block_at y from v i))) v

  abbrev pub solved_backward_in : ℕ → List Float → List Float
  solved_backward_in i v = with_block_at y from i (backward_in (factor_shape_of h w i) (working_block h w i i) (at ieee (block_at y from v i))) v

-- block i, of the blocks z, less those before it, in turn, and solved with factor i
abbrev pub forward_made : List ℕ → List Float → ℕ → List (List Float) → List Float → List Float
forward_made h w i z b = forward_in (factor_shape_of h w i) (working_block h w i i) (subtract_first h w i z (at ieee b) i)

-- or less the n blocks behind it
abbrev pub backward_made : List ℕ → List Float → (i n : ℕ) → List (List Float) → List Float → List Float
backward_made h w i n z b = backward_in (factor_shape_of h w i) (working_block h w i i) (subtract_later h w i (drop (suc i) z) (at ieee b) n)

-- the vector with that for block i
abbrev pub turned_forward : List ℕ → List Float → Layout → (from i : ℕ) → List Float → List Float
turned_forward h w y from i v = with_block_at y from i (forward_made h w i (blocks_at y from v) (block_at y from v i)) v

abbrev pub turned_backward : List ℕ → List Float → Layout → (from i : ℕ) → List Float → List Float
turned_backward h w y from i v = with_block_at y from i (backward_made h w i (y.k - suc i) (blocks_at y from v) (block_at y from v i)) v

-- A response written cell by cell into the loaded numbers (document 01, Record 3): its row in the fixed rows of every factor, and in the last triangle.
use Prim.Native.Nat.{ℕ, zero, suc, ◌+◌, ◌*◌}
use Rattle.std.specs.Prelude.{List, get_or, set, Float}
use Rattle.std.specs.Float.{nan}
use Rattle.storage.specs.Runs.{start, triangle}
use Rattle.layout.specs.declared.Layout.{Layout}
use Rattle.layout.specs.Shapes.{loaded_at, last_rows, block_rows, response_row}
use Rattle.workspace.specs.Loaded.{row_start}
use Rattle.workspace.specs.Response.{Response}

-- w with g 0, .., g (n - 1) written into it, the first at `to`, each next one `step` further on
unfoldable pub strided : ℕ → ℕ → ℕ → (ℕ → Float) → List Float → List Float
strided to step zero g w = w
strided to step (suc c) g w = set (strided to step c g w) (to + c * step) (g c)

-- the doubles of l from `from` on
abbrev pub from : List Float → ℕ → ℕ → Float
from l at c = get_or l (at + c) nan

module _ (y : Layout) where
  -- Z'y of sorted block j, by its rows in the sheet, in the response's row of the block's fixed rows, which lie by columns
  unfoldable pub fixed_row : List Float → ℕ → List Float → List Float
  unfolding strided loaded_at
  fixed_row zy j w = strided (loaded_at y y.k j + response_row y) (last_rows y) (block_rows y j) (from zy (row_start y j)) w

  -- those of the first n blocks
  unfoldable pub fixed_rows : List Float → ℕ → List Float → List Float
  unfolding fixed_row
  fixed_rows zy zero w = w
  fixed_rows zy (suc j) w = fixed_row zy j (fixed_rows zy j w)

  -- where its row of the last triangle starts
  unfoldable pub last_at : ℕ
  unfolding loaded_at start
  last_at = loaded_at y y.k y.k + start triangle (response_row y)

  -- X'y in it, and y'y behind
  unfoldable pub last_row : List Float → List Float → List Float → List Float
  unfolding strided last_at
  last_row xy yy w = strided (last_at + response_row y) 1 1 (from yy 0) (strided last_at 1 y.p (from xy 0) w)

  -- the whole response
  unfoldable pub response_rows : Response → List Float → List Float
  unfolding fixed_rows last_row
  response_rows r w = last_row r.xy r.yy (fixed_rows r.zy y.k w)

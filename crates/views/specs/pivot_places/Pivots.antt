-- The pivots of a factor by the layout alone (document 01, Record 4): the shape of block (j, j), and where each pivot lies.
use Rattle.std.specs.Prelude.{ℕ, Bool, ◌&&◌, List, ltb, leb, eqb, Float}
use Rattle.storage.specs.Shape.{Shape, place_of}
use Rattle.block_runs.specs.blocks.Blocks.{block}
use Rattle.layout.specs.declared.Layout.{Layout}
use Rattle.layout.specs.Shapes.{pick, factor_shape, working_at, last_shape}
use Rattle.block_places.specs.block_kinds.Rows.{rows_of}

-- there is a block j, and it has a row r
abbrev pub is_pivot : Layout → ℕ → ℕ → Bool
is_pivot y j r = leb j y.k && ltb r (rows_of y j)

-- the shape of working block (j, j)
abbrev pub pivot_shape : Layout → ℕ → Shape
pivot_shape y j = pick (eqb j y.k) (last_shape y) (factor_shape y j)

-- where pivot r lies in it
unfoldable pub pivot_in : Layout → ℕ → ℕ → ℕ
pivot_in y j r = place_of (pivot_shape y j) r r

-- pivot r of block j among the doubles
unfoldable pub pivot_at : Layout → List Float → ℕ → ℕ → Float
pivot_at y w j r = block (working_at y j j) (pivot_shape y j) w r r

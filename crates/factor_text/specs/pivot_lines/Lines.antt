-- The lines of the pivots by the layout alone (document 01, "Worked sheets"): by block, then row.
use Rattle.std.specs.Prelude.{ℕ, zero, suc, List, [], ◌++◌, Float}
use Rattle.layout.specs.declared.Layout.{Layout}
use Rattle.factor_output.specs.Print.{pivot_line}
use Rattle.block_places.specs.block_kinds.Rows.{rows_of}
use Rattle.views.specs.pivot_places.Pivots.{pivot_at}

-- the first n pivots of block j
unfoldable pub row_lines : Layout → List Float → ℕ → ℕ → List ℕ
row_lines y w j zero = []
row_lines y w j (suc r) = row_lines y w j r ++ pivot_line j r (pivot_at y w j r)

-- all pivots of the first n blocks
unfoldable pub block_lines : Layout → List Float → ℕ → List ℕ
block_lines y w zero = []
block_lines y w (suc j) = block_lines y w j ++ row_lines y w j (rows_of y j)

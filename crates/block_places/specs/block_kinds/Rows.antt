-- The rows of each block of a layout (document 01, Record 2).
use Rattle.std.specs.Prelude.{ℕ, eqb}
use Rattle.layout.specs.declared.Layout.{Layout}
use Rattle.layout.specs.Shapes.{pick, block_rows, last_rows}

-- the rows of block i, block k being the last
abbrev pub rows_of : Layout → ℕ → ℕ
rows_of y i = pick (eqb i y.k) (last_rows y) (block_rows y i)

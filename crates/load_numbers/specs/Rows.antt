-- Where the row of each sparse column's entry goes (document 01, Records 2 and 3): behind the parts of the heading, one for each column.
use Rattle.std.specs.Prelude.{ℕ, ◌+◌, ◌-◌, ◌&&◌, cond, List, eqb, set}
use Rattle.sheet.specs.declared.Line.{Line}
use Rattle.sheet.specs.Field.{nowhere}
use Rattle.layout.specs.declared.Layout.{Layout}
use Rattle.layout.specs.Blocks.{sum}
use Rattle.heading_format.specs.Heading.{sheet_levels}
use Rattle.workspace.specs.Loaded.{row_start}
use Rattle.block_places.specs.sheet_rows.Blocks.{block_of_row}
use Rattle.heading_format.specs.Parts.{heading_length}

-- an entry whose column is in block 0 and whose row is in block 1
unfoldable pub row_place : Layout → ℕ → ℕ → ℕ
unfolding block_of_row sum sheet_levels
row_place y col row = cond (eqb (block_of_row y y.k col) 0 && eqb (block_of_row y y.k row) 1) (heading_length + (col - row_start y 0)) nowhere

-- its row, counted in block 1; any other entry is put nowhere
abbrev pub put_row : Layout → ℕ → Line → List ℕ → List ℕ
put_row y i l h = set h (row_place y l.first l.second) (l.second - row_start y 1)

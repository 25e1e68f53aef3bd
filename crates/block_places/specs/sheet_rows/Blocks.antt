-- Which sorted block has a row of the sheet, and what a program keeps of a layout to find it (document 01, Record 3).
use Rattle.std.specs.Prelude.{ℕ, zero, suc, ◌+◌, ◌*◌, ◌≤◌, ◌<◌, ◌≡◌, cond, List, get_or}
use Rattle.layout.specs.declared.Layout.{Layout}
use Rattle.layout.specs.Shapes.{loaded_at}
use Rattle.layout.specs.Blocks.{sum}
use Rattle.heading_format.specs.Heading.{sheet_levels}
use Rattle.workspace.specs.Loaded.{row_start, in_block}

-- the one of the first n sorted blocks that has row x, or k where none has
unfoldable pub block_of_row : Layout → ℕ → ℕ → ℕ
unfolding sum sheet_levels
block_of_row y zero x = y.k
block_of_row y (suc j) x = let rest = block_of_row y j x in cond (in_block y j x) j rest

-- where the rows of each sorted block start in the sheet
abbrev pub FirstRows : Layout → List ℕ → Type 0
FirstRows y l = (j : ℕ) → j < y.k → get_or l j 0 ≡ row_start y j

-- where each loaded block starts among the doubles
abbrev pub BlockStarts : Layout → List ℕ → Type 0
BlockStarts y l = (i j : ℕ) → j ≤ i → i ≤ y.k → get_or l (i * 9 + j) 0 ≡ loaded_at y i j

-- A sheet held in bytes (document 01, Record 1): nothing of it is stored, its lines are read again from where they start.
use Rattle.std.specs.Prelude.{ℕ, ◌≡◌, List, [], ◌∷◌}
use Rattle.sheet.specs.declared.Starts.{Starts}
use Rattle.sheet.specs.Line.{block_line}
use Rattle.sheet.specs.Run.{Block, block_in, kept_from}
use Rattle.sheet.specs.Sheet.{Sheet, accepted, read_sheet}

-- the bytes s hold a sheet whose lines start at z
abbrev pub Holds : List ℕ → Starts → Type 0
Holds s z = (sheet : Sheet) × (read_sheet s ≡ accepted sheet z)

-- the levels of each block, in sheet order
unfoldable pub level_list : List Block → List ℕ
level_list [] = []
level_list (b ∷ l) = b.m ∷ level_list l

-- the blocks of the n lines from a position on
abbrev pub blocks_at : List ℕ → ℕ → ℕ → List Block
blocks_at s n at = kept_from (block_line s) block_in n 0 at

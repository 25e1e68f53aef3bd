-- The shapes of the blocks of a workspace (document 01, Records 2 to 4): which cells (r, c) a block has, and where each lies in its list.
use Rattle.std.specs.Prelude.{ℕ, ◌+◌, Bool, ◌&&◌, List, get_or, ltb, leb, eqb}
use Rattle.storage.specs.Runs.{start, triangle, dense, single, cells}

-- how a block's cells lie in memory
pub data Shape : Type 0 where
  -- n rows: a lower triangle by rows, cell (r, c) where c ≤ r < n
  packed : ℕ → Shape
  -- n: the cells (r, r) where r < n
  diagonal : ℕ → Shape
  -- rows, cols: a dense block by columns, cell (r, c) at c * rows + r
  columns : ℕ → ℕ → Shape
  -- cols, and the row of the one entry of each column: cell (row c, c) at c
  entries : ℕ → (ℕ → ℕ) → Shape

-- how many runs a block has: rows of a triangle, else columns
abbrev pub runs : Shape → ℕ
runs (packed n) = n
runs (diagonal n) = n
runs (columns rows cols) = cols
runs (entries cols row) = cols

-- how many cells each run has
abbrev pub run_length : Shape → ℕ → ℕ
run_length (packed n) = triangle
run_length (diagonal n) = single
run_length (columns rows cols) = dense rows
run_length (entries cols row) = single

-- the run that cell (r, c) is in
abbrev pub run_of : Shape → ℕ → ℕ → ℕ
run_of (packed n) r c = r
run_of (diagonal n) r c = r
run_of (columns rows cols) r c = c
run_of (entries cols row) r c = c

-- which cell of its run cell (r, c) is
abbrev pub in_run : Shape → ℕ → ℕ → ℕ
in_run (packed n) r c = c
in_run (diagonal n) r c = 0
in_run (columns rows cols) r c = r
in_run (entries cols row) r c = 0

-- the row of cell i of run j
abbrev pub row_at : Shape → ℕ → ℕ → ℕ
row_at (packed n) j i = j
row_at (diagonal n) j i = j
row_at (columns rows cols) j i = i
row_at (entries cols row) j i = row j

-- the column of cell i of run j
abbrev pub column_at : Shape → ℕ → ℕ → ℕ
column_at (packed n) j i = i
column_at (diagonal n) j i = j
column_at (columns rows cols) j i = j
column_at (entries cols row) j i = j

-- whether a block has a cell (r, c)
abbrev pub has_cell : Shape → ℕ → ℕ → Bool
has_cell (packed n) r c = ltb r n && leb c r
has_cell (diagonal n) r c = ltb r n && eqb c r
has_cell (columns rows cols) r c = ltb c cols && ltb r rows
has_cell (entries cols row) r c = ltb c cols && eqb r (row c)

-- how many cells a block has
abbrev pub size_of : Shape → ℕ
size_of s = start (run_length s) (runs s)

-- where cell (r, c) lies in the block's list
abbrev pub place_of : Shape → ℕ → ℕ → ℕ
place_of s r c = start (run_length s) (run_of s r c) + in_run s r c

-- the list of the block whose cell (r, c) is f r c
unfoldable pub fill : {A : Type 0} → Shape → (ℕ → ℕ → A) → List A
fill s f = cells (run_length s) (runs s) (λ j i. f (row_at s j i) (column_at s j i))

-- cell (r, c) of the block l, d where the list has none
abbrev pub cell : {A : Type 0} → A → Shape → List A → ℕ → ℕ → A
cell d s l r c = get_or l (place_of s r c) d

-- A block is stored as runs of cells, one behind the other: run j has `len j` cells, and cell i of it lies at `start len j + i`.
use Rattle.std.specs.Prelude.{ℕ, zero, suc, ◌+◌, List, [], ◌∷◌, ◌++◌}

-- where run j starts: the sum of the lengths of the runs before it
unfoldable pub start : (ℕ → ℕ) → ℕ → ℕ
start len zero = 0
start len (suc j) = start len j + len j

-- the rows of a packed lower triangle: row r has r + 1 cells
abbrev pub triangle : ℕ → ℕ
triangle r = suc r

-- the columns of a dense block: every one has `rows` cells
abbrev pub dense : ℕ → ℕ → ℕ
dense rows x = rows

-- every run has one cell
abbrev pub single : ℕ → ℕ
single x = 1

module _ {A : Type 0} where
  -- f 0, .., f (n - 1)
  unfoldable pub tab : ℕ → (ℕ → A) → List A
  tab zero f = []
  tab (suc n) f = tab n f ++ (f n ∷ [])

  -- the cells of n runs in their order, cell i of run j being b j i
  unfoldable pub cells : (ℕ → ℕ) → ℕ → (ℕ → ℕ → A) → List A
  cells len zero b = []
  cells len (suc j) b = cells len j b ++ tab (len j) (b j)

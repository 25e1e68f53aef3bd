-- Small blocks, computed. Cell (r, c) is the number 10 r + c.
use Prim.Native.Nat.{ℕ, ◌+◌, ◌*◌}
use mathlib.Core.Path.{◌≡◌, refl}
use mathlib.Core.Bool.{true, false}
use mathlib.Core.List.{[], ◌∷◌}
use lib.ListN.{get_or}
use Rattle.storage.specs.Runs.{start, tab, cells}
use Rattle.storage.specs.Shape.{packed, diagonal, columns, entries, has_cell, size_of, place_of, fill, cell}
use Rattle.storage.specs.Part.{part, store}

abbrev number : ℕ → ℕ → ℕ
number r c = 10 * r + c

-- the rows 1, 0, 1 of a sparse block's columns
abbrev rows : ℕ → ℕ
rows c = get_or (1 ∷ 0 ∷ 1 ∷ []) c 0

-- a triangle of 3 rows, row by row
pub three_rows : fill (packed 3) number ≡ 0 ∷ 10 ∷ 11 ∷ 20 ∷ 21 ∷ 22 ∷ []
unfolding fill cells tab
three_rows = refl

-- 2 rows and 3 columns, column by column
pub two_by_three : fill (columns 2 3) number ≡ 0 ∷ 10 ∷ 1 ∷ 11 ∷ 2 ∷ 12 ∷ []
unfolding fill cells tab
two_by_three = refl

-- a diagonal
pub three_pivots : fill (diagonal 3) number ≡ 0 ∷ 11 ∷ 22 ∷ []
unfolding fill cells tab
three_pivots = refl

-- one entry a column
pub three_entries : fill (entries 3 rows) number ≡ 10 ∷ 1 ∷ 12 ∷ []
unfolding fill cells tab
three_entries = refl

-- sizes
pub sizes : (size_of (packed 3) ≡ 6) × (size_of (columns 2 3) ≡ 6) × (size_of (diagonal 3) ≡ 3) × (size_of (entries 3 rows) ≡ 3)
unfolding start
sizes = (refl, refl, refl, refl)

-- places
pub places : (place_of (packed 3) 2 1 ≡ 4) × (place_of (columns 2 3) 1 2 ≡ 5) × (place_of (diagonal 3) 2 2 ≡ 2) × (place_of (entries 3 rows) 0 1 ≡ 1)
unfolding start
places = (refl, refl, refl, refl)

-- cells that a shape has
pub inside : (has_cell (packed 3) 2 2 ≡ true) × (has_cell (columns 2 3) 1 2 ≡ true) × (has_cell (diagonal 3) 2 2 ≡ true) × (has_cell (entries 3 rows) 1 2 ≡ true)
inside = (refl, refl, refl, refl)

-- and cells that it has not: above the diagonal, past the last row, beside the diagonal, in another row than the entry's
pub outside : (has_cell (packed 3) 1 2 ≡ false) × (has_cell (columns 2 3) 2 1 ≡ false) × (has_cell (diagonal 3) 2 1 ≡ false) × (has_cell (entries 3 rows) 0 2 ≡ false)
outside = (refl, refl, refl, refl)

-- a cell read from a list, and one that the list has not
pub read : (cell {A = ℕ} 99 (columns 2 3) (0 ∷ 10 ∷ 1 ∷ 11 ∷ 2 ∷ 12 ∷ []) 0 2 ≡ 2) × (cell {A = ℕ} 99 (packed 3) (0 ∷ []) 1 0 ≡ 99)
unfolding start
read = (refl, refl)

-- two cells stored in the middle of five
pub stored : store {A = ℕ} 1 (7 ∷ 8 ∷ []) (0 ∷ 1 ∷ 2 ∷ 3 ∷ 4 ∷ []) ≡ 0 ∷ 7 ∷ 8 ∷ 3 ∷ 4 ∷ []
unfolding store
stored = refl

-- two cells of five
pub parted : part {A = ℕ} 1 2 (0 ∷ 1 ∷ 2 ∷ 3 ∷ 4 ∷ []) ≡ 1 ∷ 2 ∷ []
parted = refl

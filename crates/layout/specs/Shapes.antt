-- The blocks of a workspace: their shapes, where they lie among the doubles, and how many doubles there are (document 01, Records 2 to 4).
use Rattle.std.specs.Prelude.{ℕ, zero, suc, ◌+◌, ◌*◌, ◌/◌, Bool, true, false, ◌&&◌, cond, List, [], ◌∷◌, ◌++◌, ltb, eqb, get_or}
use Rattle.storage.specs.Shape.{Shape, packed, diagonal, columns, entries, size_of}
use Rattle.layout.specs.declared.Layout.{Layout}
use Rattle.layout.specs.declared.FactorKind.{FactorKind}
use Rattle.layout.specs.declared.FactorKind.TheVariants.{Diagonal, Packed}

-- levels of sorted block j, and its place in the sheet
abbrev pub levels : Layout → ℕ → ℕ
levels y j = get_or y.m j 0

abbrev pub sheet_index : Layout → ℕ → ℕ
sheet_index y j = get_or y.order j 0

-- ---- rows: a sorted block has one for each level; block k has one for each fixed effect, and behind them that of the response
abbrev pub block_rows : Layout → ℕ → ℕ
block_rows y j = levels y j

abbrev pub response_row : Layout → ℕ
response_row y = y.p

abbrev pub last_rows : Layout → ℕ
last_rows y = response_row y + 1

-- ---- the shape of working block (i, j), 0 ≤ j ≤ i ≤ k, block k being fixed effects and response. `row` is the row of each sparse column's entry.
abbrev pub pick : {A : Type 0} → Bool → A → A → A
pick true a b = a
pick false a b = b

-- how factor j is stored: the first as a diagonal, the second where the layout says so, any other packed
abbrev pub factor_kind : Layout → ℕ → FactorKind
factor_kind y zero = Diagonal
factor_kind y (suc zero) = pick y.diagonal Diagonal Packed
factor_kind y (suc (suc j)) = Packed

abbrev pub shape_of_kind : FactorKind → ℕ → Shape
shape_of_kind Diagonal n = diagonal n
shape_of_kind Packed n = packed n

abbrev pub factor_shape : Layout → ℕ → Shape
factor_shape y j = shape_of_kind (factor_kind y j) (block_rows y j)

abbrev pub cross_shape : Layout → (ℕ → ℕ) → ℕ → ℕ → Shape
cross_shape y row i j = pick y.sparse (entries (block_rows y 0) row) (columns (block_rows y i) (block_rows y j))

-- block (k, k), and the fixed rows (k, j)
abbrev pub last_shape : Layout → Shape
last_shape y = packed (last_rows y)

abbrev pub fixed_shape : Layout → ℕ → Shape
fixed_shape y j = columns (last_rows y) (block_rows y j)

unfoldable pub shape : Layout → (ℕ → ℕ) → ℕ → ℕ → Shape
shape y row i j = pick (eqb i y.k) (pick (eqb j y.k) (last_shape y) (fixed_shape y j)) (pick (eqb i j) (factor_shape y j) (cross_shape y row i j))

-- the shape of a loaded block: a factor's diagonal alone is loaded, and a pair, the fixed rows and the last triangle as they work
unfoldable pub loaded_shape : Layout → (ℕ → ℕ) → ℕ → ℕ → Shape
unfolding shape
loaded_shape y row i j = pick (eqb i j && ltb j y.k) (diagonal (block_rows y j)) (shape y row i j)

-- ---- the order in which blocks lie: the factors, the pairs (1,0), (2,0), (2,1), .., the fixed rows of each factor, the last triangle
pub record Target : Type 0 where
  pub row : ℕ
  pub col : ℕ

abbrev pub target : ℕ → ℕ → Target
target i j = record { row = i; col = j }

unfoldable pub factors : ℕ → List Target
factors zero = []
factors (suc j) = factors j ++ (target j j ∷ [])

-- (i, 0), .., (i, n - 1)
unfoldable pub across : ℕ → ℕ → List Target
across i zero = []
across i (suc j) = across i j ++ (target i j ∷ [])

unfoldable pub pairs : ℕ → List Target
unfolding across
pairs zero = []
pairs (suc i) = pairs i ++ across i i

unfoldable pub targets : ℕ → List Target
unfolding factors pairs across
targets k = factors k ++ pairs k ++ across k k ++ (target k k ∷ [])

-- the cells of the blocks of a list, and of those before (i, j)
unfoldable pub cells_of : (ℕ → ℕ → ℕ) → List Target → ℕ
cells_of size [] = 0
cells_of size (t ∷ l) = size t.row t.col + cells_of size l

unfoldable pub before : (ℕ → ℕ → ℕ) → List Target → ℕ → ℕ → ℕ
before size [] i j = 0
before size (t ∷ l) i j = let rest = before size l i j in cond (eqb t.row i && eqb t.col j) 0 (size t.row t.col + rest)

abbrev pub sizes : Layout → ℕ → ℕ → ℕ
sizes y i j = size_of (shape y (λ x. 0) i j)

abbrev pub loaded_sizes : Layout → ℕ → ℕ → ℕ
loaded_sizes y i j = size_of (loaded_shape y (λ x. 0) i j)

-- ---- the doubles: the loaded blocks, then theta in sheet order, the working blocks, and the logarithms' sum
-- the loaded numbers end with the last triangle
unfoldable pub triangle_end : Layout → ℕ
unfolding targets cells_of loaded_shape
triangle_end y = cells_of (loaded_sizes y) (targets y.k)

abbrev pub loaded_length : Layout → ℕ
loaded_length y = triangle_end y

unfoldable pub loaded_at : Layout → ℕ → ℕ → ℕ
unfolding targets before loaded_shape
loaded_at y i j = before (loaded_sizes y) (targets y.k) i j

abbrev pub theta_at : Layout → ℕ
theta_at y = loaded_length y

-- a number for each block of the sheet
abbrev pub theta_length : Layout → ℕ
theta_length y = y.k

unfoldable pub working_at : Layout → ℕ → ℕ → ℕ
unfolding triangle_end targets before shape
working_at y i j = theta_at y + theta_length y + before (sizes y) (targets y.k) i j

unfoldable pub sum_at : Layout → ℕ
unfolding triangle_end targets cells_of shape
sum_at y = theta_at y + theta_length y + cells_of (sizes y) (targets y.k)

-- the end of the working doubles, up to which a refused pivot clears, and that of the workspace, up to which load does: the same
abbrev pub working_end : Layout → ℕ
working_end y = sum_at y + 1

abbrev pub doubles_needed : Layout → ℕ
doubles_needed y = working_end y

-- ---- Record 2's formula: X cross cells, F, D, and q + k + D + 2X + 2F + 1
unfoldable pub cross_cells : Layout → ℕ
unfolding pairs cells_of shape
cross_cells y = cells_of (sizes y) (pairs y.k)

abbrev pub fixed_cells : Layout → ℕ
fixed_cells y = y.q * (y.p + 1) + (y.p + 1) * (y.p + 2) / 2

unfoldable pub factor_cells : Layout → ℕ
unfolding factors cells_of shape
factor_cells y = cells_of (sizes y) (factors y.k)

abbrev pub doubles_formula : Layout → ℕ
doubles_formula y = y.q + y.k + factor_cells y + 2 * cross_cells y + 2 * fixed_cells y + 1

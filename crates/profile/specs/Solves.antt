-- The solves with the factor of the random effects (document 01, Record 7; `forward_solve_ld`, `backward_solve_ld`), block by block.
-- A right side and its solution are the lists of their sorted blocks.
use Prim.Native.Nat.{ℕ, zero, suc, ◌+◌, ◌-◌}
use mathlib.Core.List.{List, [], ◌∷◌, ◌++◌}
use Rattle.std.specs.Prelude.{get_or, Float}
use Rattle.storage.specs.Runs.{tab}
use Rattle.storage.specs.Shape.{Shape, packed, diagonal, columns, entries}
use Rattle.rules.specs.Arithmetic.{ieee}
use Rattle.rules.specs.Begin.{fixed_cell}
use Rattle.rules.specs.Cholesky.{at, forward}
use Rattle.rules.specs.Solves.{matvec_sub, sparse_matvec_sub, matvec_t_sub, sparse_matvec_t_sub, backward}
use Rattle.layout.specs.Shapes.{pick, block_rows, shape, loaded_shape}
use Rattle.heading_format.specs.Heading.{layout_of, entry_row}
use Rattle.workspace.specs.Memory.{cell_of, loaded_block, working_block, theta_of}

-- block j of a list of blocks
abbrev pub block_in : List (List Float) → ℕ → List Float
block_in l j = get_or l j []

-- ---- inside a factor: forward and backward substitution, or the division by a diagonal
abbrev pub forward_in : Shape → List Float → (ℕ → Float) → List Float
forward_in (packed n) f v = forward ieee v (cell_of (packed n) f) n
forward_in (diagonal n) f v = tab n (λ c. ieee.over (v c) (cell_of (diagonal n) f c c))
forward_in (columns rows cols) f v = []
forward_in (entries cols row) f v = []

abbrev pub backward_in : Shape → List Float → (ℕ → Float) → List Float
backward_in (packed n) f v = backward ieee v (cell_of (packed n) f) n n
backward_in (diagonal n) f v = tab n (λ c. ieee.over (v c) (cell_of (diagonal n) f c c))
backward_in (columns rows cols) f v = []
backward_in (entries cols row) f v = []

module _ (h : List ℕ) (w : List Float) where
  abbrev pub factor_shape_of : ℕ → Shape
  factor_shape_of j = shape (layout_of h) (entry_row h) j j

  abbrev pub cross_cell_of : ℕ → ℕ → ℕ → ℕ → Float
  cross_cell_of i j = cell_of (shape (layout_of h) (entry_row h) i j) (working_block h w i j)

  abbrev pub sparse_value : ℕ → Float
  sparse_value c = get_or (working_block h w 1 0) c ieee.zero

  -- ---- forward: v of block i less cross block (i, j) times block j of the solution
  abbrev pub subtract_forward : ℕ → ℕ → List Float → (ℕ → Float) → ℕ → Float
  subtract_forward i j z v =
      pick (layout_of h).sparse (sparse_matvec_sub ieee (entry_row h) sparse_value (at ieee z) v (block_rows (layout_of h) j))
      (matvec_sub ieee (cross_cell_of i j) (at ieee z) v (block_rows (layout_of h) j))

  -- blocks 0 to n - 1, in turn
  unfoldable pub subtract_first : ℕ → List (List Float) → (ℕ → Float) → ℕ → ℕ → Float
  unfolding shape
  subtract_first i z v zero = v
  subtract_first i z v (suc j) = subtract_forward i j (block_in z j) (subtract_first i z v j)

  -- the first n blocks of the solution of L z = v
  unfoldable pub forward_solved : List (List Float) → ℕ → List (List Float)
  unfolding subtract_first shape
  forward_solved v zero = []
  forward_solved v (suc i) =
      let z = forward_solved v i in
      z ++ (forward_in (factor_shape_of i) (working_block h w i i) (subtract_first i z (at ieee (block_in v i)) i) ∷ [])

  -- ---- backward: v of block i less the transpose of cross block (j, i) times block j of the solution
  abbrev pub subtract_backward : ℕ → ℕ → List Float → (ℕ → Float) → ℕ → Float
  subtract_backward j i z v =
      pick (layout_of h).sparse (sparse_matvec_t_sub ieee (entry_row h) sparse_value (at ieee z) v)
      (matvec_t_sub ieee (cross_cell_of j i) (at ieee z) v (block_rows (layout_of h) j))

  -- blocks i + 1 to i + n, in turn; z has them from i + 1 on
  unfoldable pub subtract_later : ℕ → List (List Float) → (ℕ → Float) → ℕ → ℕ → Float
  unfolding shape
  subtract_later i z v zero = v
  subtract_later i z v (suc x) = subtract_backward (i + suc x) i (block_in z x) (subtract_later i z v x)

  -- the last n blocks of the solution of L' w = z
  unfoldable pub backward_solved : List (List Float) → ℕ → List (List Float)
  unfolding subtract_later shape
  backward_solved z zero = []
  backward_solved z (suc n) =
      let rest = backward_solved z n in
      let i = (layout_of h).k - suc n in
      backward_in (factor_shape_of i) (working_block h w i i) (subtract_later i rest (at ieee (block_in z i)) n) ∷ rest

  -- w = A⁻¹ v (`backsolve_a_inv`)
  unfoldable pub solved_for : List (List Float) → List (List Float)
  unfolding forward_solved backward_solved
  solved_for v = backward_solved (forward_solved v (layout_of h).k) (layout_of h).k

  -- v of row r of the fixed rows: its loaded cells times theta
  unfoldable pub scaled_row : ℕ → List (List Float)
  unfolding loaded_shape
  scaled_row r =
      let y = layout_of h in
      tab y.k (λ j. tab (block_rows y j) (λ c. fixed_cell ieee (theta_of h w j) (cell_of (loaded_shape y (entry_row h) y.k j) (loaded_block h w y.k j) r c)))

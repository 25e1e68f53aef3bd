-- What begin and each step make of whole blocks (document 01, Record 4): the rules of `rules`, at the shapes of a layout. A block is the list of its doubles.
use Prim.Native.Nat.{ℕ}
use Rattle.std.specs.Prelude.{Bool, ◌&&◌, List, eqb}
use Rattle.std.proofs.Math.Bool.{cond}
use Rattle.std.proofs.Math.Option.{Option, none}
use Rattle.std.proofs.Math.ListN.{get_or}
use Rattle.std.specs.Float.Ieee.{Float}
use Rattle.storage.specs.Shape.{Shape, packed, diagonal, columns, entries, fill}
use Rattle.step_order.specs.Elimination.{Rules}
use Rattle.rules.specs.Arithmetic.{ieee}
use Rattle.rules.specs.Begin.{diagonal_cell, cross_cell, fixed_cell}
use Rattle.rules.specs.Steps.{subtract_dense, subtract_diagonal, subtract_last, subtract_sparse, divide}
use Rattle.rules.specs.Cholesky.{at, forward, factor, radicand, pivots, logs_of_first, logs_of_later}
use Rattle.layout.specs.declared.Layout.{Layout}
use Rattle.layout.specs.declared.FactorKind.{FactorKind}
use Rattle.layout.specs.declared.FactorKind.TheVariants.{Diagonal, Packed}
use Rattle.layout.specs.Shapes.{pick, block_rows, factor_kind, shape, loaded_shape}
use Rattle.workspace.specs.Memory.{cell_of, sorted_theta}

-- ---- C on a block of a shape: the roots of a diagonal, or the Cholesky factor of a triangle
unfoldable pub factored : Shape → List Float → List Float
factored (packed n) b = fill (packed n) (factor ieee (cell_of (packed n) b) n)
factored (diagonal n) b = fill (diagonal n) (λ r c. ieee.root (cell_of (diagonal n) b r r))
factored (columns rows cols) b = b
factored (entries cols row) b = b

-- the row of the first pivot that it refuses
unfoldable pub refused_row : Shape → List Float → Option ℕ
refused_row (packed n) b = pivots ieee (radicand ieee (cell_of (packed n) b)) n
refused_row (diagonal n) b = pivots ieee (λ r. cell_of (diagonal n) b r r) n
refused_row (columns rows cols) b = none
refused_row (entries cols row) b = none

-- how many pivots a factor has
abbrev pub pivot_count : Shape → ℕ
pivot_count (packed n) = n
pivot_count (diagonal n) = n
pivot_count (columns rows cols) = 0
pivot_count (entries cols row) = 0

-- ---- T: a block t, of the shape s, by a factor f of the shape d
unfoldable pub solved : Shape → Shape → List Float → List Float → List Float
solved s (packed n) t f = fill s (λ r c. at ieee (forward ieee (cell_of s t r) (cell_of (packed n) f) n) c)
solved s (diagonal n) t f = fill s (divide ieee (cell_of s t) (λ c. cell_of (diagonal n) f c c))
solved s (columns rows cols) t f = t
solved s (entries cols row) t f = t

-- ---- S(j,j,h) of a factor, 0 < j, by its kind; `loaded` tells which cells of pair (1,0) were loaded non-zero
abbrev pub subtract_own : FactorKind → (loaded : ℕ → ℕ → Bool) (T A B : ℕ → ℕ → Float) → ℕ → ℕ → ℕ → Float
subtract_own Diagonal loaded T A B inner = subtract_diagonal ieee loaded T A inner
subtract_own Packed loaded T A B inner = subtract_dense ieee T A B inner

-- A workspace's rules depend on its layout y, on the row of each sparse column's entry, and on which cells of pair (1,0) were loaded non-zero.
module _ (y : Layout) (row : ℕ → ℕ) (loaded : ℕ → ℕ → Bool) where
  -- S(i,j,h) of blocks (i,j), (i,h), (j,h)
  unfoldable pub subtracted : ℕ → ℕ → ℕ → List Float → List Float → List Float → List Float
  unfolding shape
  subtracted i j h t a b =
      let T = cell_of (shape y row i j) t in
      let A = cell_of (shape y row i h) a in
      let B = cell_of (shape y row j h) b in
      let inner = block_rows y h in
      fill (shape y row i j)
      (pick (eqb j y.k) (subtract_last ieee T A inner)
      (pick (eqb i j) (subtract_own (factor_kind y j) loaded T A B inner)
      (pick (eqb i y.k && y.sparse) (subtract_sparse ieee row T A (λ x. get_or b x ieee.zero) inner) (subtract_dense ieee T A B inner))))

  -- the logarithms' sum with those of factor j: block 0's one by one, a later one's from 0.0, block k's not
  unfoldable pub logged : ℕ → Float → List Float → Float
  unfolding shape
  logged j s f =
      let n = pivot_count (shape y row j j) in
      let pivot : ℕ → Float = λ r. cell_of (shape y row j j) f r r in
      pick (eqb j y.k) s (pick (eqb j 0) (logs_of_first ieee s pivot n) (logs_of_later ieee s pivot n))

  abbrev pub rules_of : Rules
  rules_of =
      record {
        Block = List Float;
        Total = Float;
        subtract = subtracted;
        pivots = λ j b. refused_row (shape y row j j) b;
        factor = λ j b. factored (shape y row j j) b;
        solve = λ i j t f. solved (shape y row i j) (shape y row j j) t f;
        empty_sum = ieee.zero;
        logs = logged;
      }

  -- ---- begin: block (i, j) from its loaded block
  unfoldable pub scaled : (theta : List Float) → ℕ → ℕ → List Float → List Float
  unfolding shape loaded_shape
  scaled theta i j a =
      let t = sorted_theta y theta in
      let a' = cell_of (loaded_shape y row i j) a in
      pick (eqb j y.k) a
      (fill (shape y row i j)
      (pick (eqb i y.k) (λ r c. fixed_cell ieee (t j) (a' r c))
      (pick (eqb i j) (λ r c. cond (eqb r c) (diagonal_cell ieee (t j) (a' r r)) ieee.zero) (λ r c. cross_cell ieee (t j) (t i) (a' r c)))))

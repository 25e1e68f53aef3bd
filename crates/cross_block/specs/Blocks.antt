-- What begin's scaling and T make of a cross block or of fixed rows (document 01, Record 4), over the whole list w that holds the blocks: the
-- target's cells become the rule's, and every other double stays.
use Rattle.std.specs.Prelude.{ℕ, ◌+◌, ◌≡◌, List, Float}
use Rattle.storage.specs.Shape.{Shape, columns, fill}
use Rattle.storage.specs.Part.{store}
use Rattle.storage.specs.declared.Block.{Block}
use Rattle.storage.specs.Placed.{Placed, as_columns, as_triangle, as_diagonal, Lies, Apart, read, put}
use Rattle.rules.specs.Arithmetic.{ieee}
use Rattle.rules.specs.Begin.{cross_cell, fixed_cell}
use Rattle.rules.specs.Steps.{divide}
use Rattle.rules.specs.Cholesky.{at, forward}
use Rattle.block_runs.specs.blocks.Blocks.{block}
use Rattle.block_runs.specs.axpy.Axpy.{run, along}
use Rattle.block_runs.specs.axpy.Axpy.{at as double}

-- begin, a cross block: the loaded block at src times theta of the column block, then of the row block
abbrev pub scaled_twice : Shape → ℕ → ℕ → Float → Float → List Float → List Float
scaled_twice s off src column row w = store off (fill s (λ r c. cross_cell ieee column row (block src s w r c))) w

-- begin, the fixed rows: the loaded block at src times theta of the column block
abbrev pub scaled_once : Shape → ℕ → ℕ → Float → List Float → List Float
scaled_once s off src t w = store off (fill s (λ r c. fixed_cell ieee t (block src s w r c))) w

-- ---- T
-- target t by columns and the factor f of its column block: both lie within n doubles, and apart
pub record ByFactor (n : ℕ) (form : Block → Placed) (t f : Block) : Type 0 where
  pub cols : f.rows ≡ t.cols
  pub target : Lies n (as_columns t)
  pub factor : Lies n (form f)
  pub apart : Apart (as_columns t) (form f)

-- a cell divided by the pivot of its column, and a cell of its row solved with a packed factor
abbrev pub divided_cell : (t f : Block) → List Float → ℕ → ℕ → Float
divided_cell t f w = divide ieee (read (as_columns t) w) (λ c. read (as_diagonal f) w c c)

abbrev pub solved_cell : (t f : Block) → List Float → ℕ → ℕ → Float
solved_cell t f w r c = at ieee (forward ieee (read (as_columns t) w r) (read (as_triangle f) w) f.rows) c

-- T by a diagonal: each column divided by its pivot
abbrev pub divided_columns : (t f : Block) → List Float → List Float
divided_columns t f w = put (as_columns t) (divided_cell t f w) w

-- T by a packed factor: forward substitution in each row
abbrev pub solved_rows : (t f : Block) → List Float → List Float
solved_rows t f w = put (as_columns t) (solved_cell t f w) w

-- column c of block t, from `to` on, solved with the columns before it and with row c of the factor, which lies from `row` on
abbrev pub solved_column : (t : Block) (c to row : ℕ) → List Float → List Float
solved_column t c to row w =
    run to t.rows
    (λ i. ieee.over (along ieee.minus (double w (to + i)) (block t.at (columns t.rows c) w i) (block row (columns 1 c) w 0) c) (double w (row + c)))
    w

-- The sums of the rows of a target, and its cells less them.
use Rattle.std.specs.Prelude.{ℕ, ◌+◌, List, Float}
use Rattle.storage.specs.Runs.{start, dense}
use Rattle.rules.specs.Arithmetic.{ieee}
use Rattle.storage.specs.declared.Block.{Block}
use Rattle.storage.specs.Placed.{as_columns, read}
use Rattle.block_runs.specs.axpy.Axpy.{at, along}

-- sum c of row r: the products of row c of block b and row r of block a
abbrev pub row_sums : (a b : Block) → List Float → ℕ → ℕ → Float
row_sums a b w r c = along ieee.plus ieee.zero (read (as_columns b) w c) (read (as_columns a) w r) a.cols

-- cell i of column c, which starts at `to`: less sum c of row i
abbrev pub subtract_sum : (to cols : ℕ) → List Float → (c : ℕ) → List Float → ℕ → Float
subtract_sum to cols sums c t i = ieee.minus (at t (to + i)) (at sums (start (dense cols) i + c))

-- cell i of column c of a block that lies from the list's start on
abbrev pub subtract_sums : (rows cols : ℕ) → List Float → List Float → ℕ → ℕ → Float
subtract_sums rows cols sums t c = subtract_sum (start (dense rows) c) cols sums c t

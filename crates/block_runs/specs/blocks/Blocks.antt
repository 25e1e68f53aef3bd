-- Blocks and vectors that lie in a list of doubles (document 01, Records 3 and 4).
use Rattle.std.specs.Prelude.{ℕ, ◌+◌, ◌<◌, ◌≡◌, List, get_or, Float}
use Rattle.storage.specs.Shape.{Shape, size_of, cell}
use Rattle.storage.specs.Part.{part}
use Rattle.rules.specs.Arithmetic.{ieee}

-- cell (r, c) of the block with shape s that lies from `off` on
abbrev pub block : ℕ → Shape → List Float → ℕ → ℕ → Float
block off s w = cell ieee.zero s (part off (size_of s) w)

-- entry x of the n entries that lie from `off` on: a sparse block, or a vector
abbrev pub entry : ℕ → ℕ → List Float → ℕ → Float
entry off n w x = get_or (part off n w) x ieee.zero

-- the row of the entry of sparse column x, from the heading h
abbrev pub row_from : List ℕ → ℕ → ℕ → ℕ
row_from h first x = get_or h (first + x) 0

-- each of n entries lies in one of m rows
abbrev pub RowsBelow : List ℕ → ℕ → ℕ → ℕ → Type 0
RowsBelow h first n m = (x : ℕ) → x < n → row_from h first x < m

-- for every shape that has n cells: what holds of a run of doubles cell by cell, holds of it as a dense block and as a list of entries
abbrev pub EachShape : ℕ → (Shape → Type 0) → Type 0
EachShape n P = (s : Shape) → size_of s ≡ n → P s

-- A block of a list of doubles: its shape and where it starts. It lies within the list, and apart from others.
use Rattle.std.specs.Prelude.{ℕ, ◌+◌, ◌≤◌, ◌≡◌, List, ◌⊎◌, Float}
use Rattle.std.specs.Float.Ieee as Ieee
use Rattle.std.specs.Float.{binary64}
use Rattle.storage.specs.Shape.{Shape, packed, diagonal, columns, entries, size_of, cell, fill}
use Rattle.storage.specs.Part.{part, store}
use Rattle.storage.specs.declared.Block.{Block}

-- a shape at a place
pub record Placed : Type 0 where
  pub at : ℕ
  pub shape : Shape

-- a block by its numbers
abbrev pub block_of : (at rows cols : ℕ) → Block
block_of at rows cols = record { at = at; rows = rows; cols = cols }

-- a block's cells, as the kernel that is given it takes them
abbrev pub as_columns : Block → Placed
as_columns b = record { at = b.at; shape = columns b.rows b.cols }

abbrev pub as_triangle : Block → Placed
as_triangle b = record { at = b.at; shape = packed b.rows }

abbrev pub as_diagonal : Block → Placed
as_diagonal b = record { at = b.at; shape = diagonal b.rows }

-- one entry a column, whose row is `row` of the column
abbrev pub as_entries : (ℕ → ℕ) → Block → Placed
as_entries row b = record { at = b.at; shape = entries b.cols row }

-- it ends within n doubles
abbrev pub Lies : ℕ → Placed → Type 0
Lies n p = p.at + size_of p.shape ≤ n

-- one of the two ends before the other starts
abbrev pub Apart : Placed → Placed → Type 0
Apart p q = (p.at + size_of p.shape ≤ q.at) ⊎ (q.at + size_of q.shape ≤ p.at)

-- n doubles from `to` on are of it
abbrev pub Within : Placed → (to n : ℕ) → Type 0
Within p to n = (p.at ≤ to) × (to + n ≤ p.at + size_of p.shape)

-- cell (r, c) of it in the list w, +0.0 where there is none
abbrev pub read : Placed → List Float → ℕ → ℕ → Float
read p w = cell (Ieee.of_bits binary64 0) p.shape (part p.at (size_of p.shape) w)

-- w with f r c in each of its cells
abbrev pub put : Placed → (ℕ → ℕ → Float) → List Float → List Float
put p f w = store p.at (fill p.shape f) w

-- target t, block a by columns and block b, whose product is of the target's sides: all lie within n doubles, and the target apart
pub record Product (n : ℕ) (form side : Block → Placed) (t a b : Block) : Type 0 where
  pub rows : a.rows ≡ t.rows
  pub cols : b.rows ≡ t.cols
  pub inner : b.cols ≡ a.cols
  pub target : Lies n (form t)
  pub left : Lies n (as_columns a)
  pub right : Lies n (side b)
  pub off_left : Apart (form t) (as_columns a)
  pub off_right : Apart (form t) (side b)

-- a diagonal t and block a, which was loaded from `src`
pub record Squares (n : ℕ) (form : Block → Placed) (t a : Block) (src : ℕ) : Type 0 where
  pub rows : a.rows ≡ t.rows
  pub target : Lies n (as_diagonal t)
  pub left : Lies n (form a)
  pub source : Lies n (form (block_of src a.rows a.cols))
  pub off_left : Apart (as_diagonal t) (form a)
  pub off_source : Apart (as_diagonal t) (form (block_of src a.rows a.cols))

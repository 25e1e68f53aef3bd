-- What begin writes (document 01, Record 4): t is theta of the block.
use Rattle.rules.specs.Arithmetic.{Arithmetic}

module _ (A : Arithmetic) where
  -- on a diagonal: (t·t)·a + 1
  abbrev pub diagonal_cell : A.Num → A.Num → A.Num
  diagonal_cell t a = A.plus (A.times (A.times t t) a) A.one

  -- in a cross block: (a·t of the column block)·t of the row block, rounded twice
  abbrev pub cross_cell : A.Num → A.Num → A.Num → A.Num
  cross_cell column row a = A.times (A.times a column) row

  -- in the fixed rows: a·t
  abbrev pub fixed_cell : A.Num → A.Num → A.Num
  fixed_cell t a = A.times a t

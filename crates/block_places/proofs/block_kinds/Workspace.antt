-- What the heading and the doubles of a workspace have, by a layout that equals the heading's (document 01, refusal 20).
use Prim.Native.Nat.{ℕ, ◌+◌, ◌≤◌, ◌<◌}
use mathlib.Core.Path.{◌≡◌, ap}
use mathlib.Core.Bool.{Bool, true, cond}
use mathlib.Core.List.{List}
use native.Mathlib.Omega.{arith}
use lib.ListN.{length}
use lib.Ieee.{Float}
use Rattle.layout.specs.declared.Layout.{Layout}
use Rattle.layout.specs.Shapes.{levels}
use Rattle.heading_format.specs.Heading.{entry_row}
use Rattle.heading_format.specs.Fits.{Fits}
use Rattle.block_places.specs.block_kinds.Rows.{rows_of}
use Rattle.block_places.proofs.block_kinds.Shapes.{sparse_two, rows_level}
use Rattle.heading_format.specs.Parts.{heading_length}

module _ (h : List ℕ) (w : List Float) (y : Layout) (fit : Fits y h (length w)) where
  -- a sparse pair is that of blocks 1 and 0
  pub fits_two : y.sparse ≡ true → y.k ≡ 2
  fits_two p = (sparse_two y fit.valid p).1

  -- and the heading has the row of each of its entries
  pub fits_numbers : y.sparse ≡ true → heading_length + rows_of y 0 ≤ length h
  fits_numbers p =
      let two = fits_two p in
      omega (arith, rows_level y 0 (omega arith), ap (λ (b : Bool). heading_length + cond b (levels y 0) 0) p, fit.numbers)

  -- each of which is one of block 1
  pub fits_rows : y.sparse ≡ true → (x : ℕ) → x < rows_of y 0 → entry_row h x < rows_of y 1
  fits_rows p x l =
      let two = fits_two p in
      omega (arith, rows_level y 1 (omega arith), fit.rows p x (omega (arith, rows_level y 0 (omega arith))))

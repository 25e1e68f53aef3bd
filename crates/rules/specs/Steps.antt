-- S and T, cell by cell (document 01, Record 4). A block is a function of row and column; inner is the number of columns of block h.
use Rattle.std.specs.Prelude.{ℕ, Bool, eqb}
use Rattle.rules.specs.Arithmetic.{Arithmetic}
use Rattle.rules.specs.Sums.{dot, chain, sum_from, subtract_from}

module _ (A : Arithmetic) where
  -- S of a dense target: the products are summed from 0.0 by rising inner index, and the sum is subtracted once
  abbrev pub subtract_dense : (t a b : ℕ → ℕ → A.Num) → ℕ → ℕ → ℕ → A.Num
  subtract_dense t a b inner r c = A.minus (t r c) (dot A (a r) (b c) inner)

  -- S of a diagonal: the same over the row's cells that were loaded non-zero, whatever they are now
  abbrev pub subtract_diagonal : (loaded : ℕ → ℕ → Bool) (t a : ℕ → ℕ → A.Num) → ℕ → ℕ → ℕ → A.Num
  subtract_diagonal loaded t a inner r c = A.minus (t r c) (sum_from A A.zero (loaded r) (a r) (a r) inner)

  -- S(k,k,h): product by product
  abbrev pub subtract_last : (t a : ℕ → ℕ → A.Num) → ℕ → ℕ → ℕ → A.Num
  subtract_last t a inner r c = chain A (t r c) (a r) (a c) inner

  -- S(k,1,0) with a sparse cross block, whose column x has its one entry v x in row `row x`: product by product
  abbrev pub subtract_sparse : (row : ℕ → ℕ) (t a : ℕ → ℕ → A.Num) (v : ℕ → A.Num) → ℕ → ℕ → ℕ → A.Num
  subtract_sparse row t a v inner r c = subtract_from A (t r c) (λ x. eqb (row x) c) (a r) v inner

  -- T by a diagonal factor: each column divided by its pivot
  abbrev pub divide : (t : ℕ → ℕ → A.Num) (pivot : ℕ → A.Num) → ℕ → ℕ → A.Num
  divide t pivot r c = A.over (t r c) (pivot c)

-- The solves of Record 7 over blocks, and what they solve where nothing is rounded: L z = v, then L' w = z, so that L L' w = v.
use Rattle.std.specs.Prelude.{ℕ, zero, suc, ◌+◌, ◌-◌, ◌<◌, ◌≡◌}
use Rattle.rules.specs.Arithmetic.{Arithmetic}
use Rattle.rules.specs.Sums.{dot}
use Rattle.rules.specs.Cholesky.{at, forward}
use Rattle.rules.specs.Solves.{matvec_sub, matvec_t_sub, backward}

-- block j has m j rows; block (i, j) of L, j ≤ i, is a function of row and column; a vector is a function of block and row
module _ (A : Arithmetic) (m : ℕ → ℕ) (L : ℕ → ℕ → ℕ → ℕ → A.Num) where
  -- ---- the rules
  -- v of block i less the cross blocks times the first n blocks of z, in turn
  unfoldable pub subtract_first : (z : ℕ → ℕ → A.Num) (i : ℕ) (v : ℕ → A.Num) → ℕ → ℕ → A.Num
  subtract_first z i v zero = v
  subtract_first z i v (suc j) = matvec_sub A (L i j) (z j) (subtract_first z i v j) (m j)

  -- z of block i less the transposes of the cross blocks below it times blocks i + 1 to i + n of w, in turn
  unfoldable pub subtract_later : (w : ℕ → ℕ → A.Num) (i : ℕ) (z : ℕ → A.Num) → ℕ → ℕ → A.Num
  subtract_later w i z zero = z
  subtract_later w i z (suc x) = matvec_t_sub A (L (i + suc x) i) (w (i + suc x)) (subtract_later w i z x) (m (i + suc x))

  -- z is what going forward makes of v, and w what going backward makes of z, over k blocks
  abbrev pub Forward : (v z : ℕ → ℕ → A.Num) → ℕ → Type 0
  Forward v z k = (i r : ℕ) → i < k → r < m i → z i r ≡ at A (forward A (subtract_first z i (v i) i) (L i i) (m i)) r

  abbrev pub Backward : (z w : ℕ → ℕ → A.Num) → ℕ → Type 0
  Backward z w k = (i r : ℕ) → i < k → r < m i → w i r ≡ at A (backward A (subtract_later w i (z i) (k - suc i)) (L i i) (m i) (m i)) r

  -- ---- the equations
  -- row r of block row i of L times z, over the first n block columns
  unfoldable pub row_sum : (z : ℕ → ℕ → A.Num) → ℕ → ℕ → ℕ → A.Num
  row_sum z zero i r = A.zero
  row_sum z (suc j) i r = A.plus (row_sum z j i r) (dot A (L i j r) (z j) (m j))

  -- entry r of block i of L z: a row of L ends at its pivot
  abbrev pub times_l : (z : ℕ → ℕ → A.Num) → ℕ → ℕ → A.Num
  times_l z i r = A.plus (row_sum z i i r) (dot A (z i) (L i i r) (suc r))

  -- column c of block column i of L below its factor, over n block rows, times w
  unfoldable pub column_sum : (w : ℕ → ℕ → A.Num) → ℕ → ℕ → ℕ → A.Num
  column_sum w zero i c = A.zero
  column_sum w (suc x) i c = A.plus (column_sum w x i c) (dot A (λ r. L (i + suc x) i r c) (w (i + suc x)) (m (i + suc x)))

  -- entry c of block i of L' w, of k blocks: a column of L begins at its pivot
  abbrev pub times_lt : (w : ℕ → ℕ → A.Num) (k : ℕ) → ℕ → ℕ → A.Num
  times_lt w k i c =
      A.plus (column_sum w (k - suc i) i c)
      (A.plus (dot A (λ x. L i i (c + suc x) c) (λ x. w i (c + suc x)) (m i - suc c)) (A.times (w i c) (L i i c c)))

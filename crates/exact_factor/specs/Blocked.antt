-- The rules of `rules` as block elimination (document 01, Record 4), and what their factor is: L L' = the matrix that the blocks started from, for dense
-- packed blocks. That begin writes the bordered matrix of Bates et al. 2015 (ΛZ'ZΛ + I, with the rows of X and y below) is not said here.
use Rattle.std.specs.Prelude.{ℕ, zero, suc, ◌≤◌, ◌<◌, ◌≡◌}
use Rattle.step_order.specs.Elimination.{Rules}
use Rattle.rules.specs.Arithmetic.{Arithmetic}
use Rattle.rules.specs.Sums.{dot}
use Rattle.rules.specs.Steps.{subtract_dense}
use Rattle.rules.specs.Cholesky.{at, forward, factor, radicand, pivots}

module _ (A : Arithmetic) (m : ℕ → ℕ) where
  -- Block j has m j rows; a block is a function of row and column. The sum of logarithms is no matter here.
  abbrev pub block_rules : Rules
  block_rules =
      record {
        Block = ℕ → ℕ → A.Num;
        Total = A.Num;
        subtract = λ i j h t a b. subtract_dense A t a b (m h);
        pivots = λ j b. pivots A (radicand A b) (m j);
        factor = λ j b. factor A b (m j);
        solve = λ i j t f r. at A (forward A (t r) f (m j));
        empty_sum = A.zero;
        logs = λ j s f. s;
      }

  -- row r of block row i times row c of block row j, over the block columns before n
  unfoldable pub products : (ℕ → ℕ → ℕ → ℕ → A.Num) → ℕ → ℕ → ℕ → ℕ → ℕ → A.Num
  products L zero i j r c = A.zero
  products L (suc h) i j r c = A.plus (products L h i j r c) (dot A (L i h r) (L j h c) (m h))

  -- entry (r, c) of block (i, j) of L L'; row c of block row j ends at its pivot
  abbrev pub entry : (ℕ → ℕ → ℕ → ℕ → A.Num) → ℕ → ℕ → ℕ → ℕ → A.Num
  entry L i j r c = A.plus (products L j i j r c) (dot A (L i j r) (L j j c) (suc c))

  -- L L' = M in the lower triangle of blocks 0 to k
  abbrev pub FactorsBlocks : (M L : ℕ → ℕ → ℕ → ℕ → A.Num) → ℕ → Type 0
  FactorsBlocks M L k =
      (i j r c : ℕ) → j ≤ i → i ≤ k → r < m i → c < m j → (i ≡ j → c ≤ r) → entry L i j r c ≡ M i j r c

-- Block elimination over any kind of block (document 01, Record 4): no cell, no memory, no order of steps.
use Rattle.std.specs.Prelude.{ℕ, zero, suc, cond, ltb, eqb}
use Rattle.std.proofs.Math.Option.{Option, none, some}

-- What the steps compute. S(i,j,h) is `subtract i j h` of blocks (i,j), (i,h), (j,h); C(j) is `factor j` of block (j,j); T(i,j) is `solve i j` of blocks (i,j), (j,j).
-- `pivots j` of a block is the row of the pivot that C(j) refuses in it, or none; `factor` is total all the same.
-- The logarithms' sum begins at `empty_sum`, and `logs j` adds those of factor j to it.
pub record Rules : Type 1 where
  pub Block : Type 0
  pub Total : Type 0
  pub subtract : ℕ → ℕ → ℕ → Block → Block → Block → Block
  pub pivots : ℕ → Block → Option ℕ
  pub factor : ℕ → Block → Block
  pub solve : ℕ → ℕ → Block → Block → Block
  pub empty_sum : Total
  pub logs : ℕ → Total → Block → Total

-- the first of two, if there is one
abbrev pub or_else : {A : Type 0} → Option A → Option A → Option A
or_else none b = b
or_else (some a) b = some a

-- a row, with its block
abbrev pub in_block : ℕ → Option ℕ → Option (ℕ × ℕ)
in_block j none = none
in_block j (some r) = some (j, r)

module _ (R : Rules) where
  -- column h of the factor, out of the blocks B that h rounds have left
  abbrev pub column : ℕ → (ℕ → ℕ → R.Block) → ℕ → R.Block
  column h B i = cond (eqb i h) (R.factor h (B h h)) (R.solve i h (B i h) (R.factor h (B h h)))

  -- Round h: column h is finished, and every block right of it is less its products; the columns before h stay.
  abbrev pub round : ℕ → (ℕ → ℕ → R.Block) → ℕ → ℕ → R.Block
  round h B i j =
      cond (ltb h j) (R.subtract i j h (B i j) (column h B i) (column h B j)) (cond (eqb h j) (column h B i) (B i j))

  -- The blocks after n rounds, from those that begin wrote. Block (i,j) is at stage n, n of its steps being done, when it is `value start n i j`.
  unfoldable pub value : (ℕ → ℕ → R.Block) → ℕ → ℕ → ℕ → R.Block
  value start zero = start
  value start (suc h) = round h (value start h)

  -- The working factor: block (i,j) when all its j + 1 steps are done.
  abbrev pub final : (ℕ → ℕ → R.Block) → ℕ → ℕ → R.Block
  final start i j = value start (suc j) i j

  -- The logarithms' sum after C(0), .., C(n - 1) (Record 4).
  unfoldable pub total : (ℕ → ℕ → R.Block) → ℕ → R.Total
  total start zero = R.empty_sum
  total start (suc j) = R.logs j (total start j) (final start j j)

  -- The first pivot that is refused in C(0), .., C(n - 1): block and row.
  unfoldable pub refused_before : (ℕ → ℕ → R.Block) → ℕ → Option (ℕ × ℕ)
  refused_before start zero = none
  refused_before start (suc j) = or_else (refused_before start j) (in_block j (R.pivots j (value start j j j)))

  -- What the Rust's order refuses when the last block is k, if it refuses any pivot (Record 5): 26 names it.
  abbrev pub refused_at : ℕ → (ℕ → ℕ → R.Block) → Option (ℕ × ℕ)
  refused_at k start = refused_before start (suc k)

-- Forward substitution and Cholesky (document 01, Record 4, T and C): product by product, inner index rising, before their one root or division.
use Rattle.std.specs.Prelude.{ℕ, zero, suc, Bool, true, false, not, List, [], ◌∷◌, ◌++◌, get_or}
use Rattle.std.proofs.Math.Option.{Option, none, some}
use Rattle.rules.specs.Arithmetic.{Arithmetic}
use Rattle.rules.specs.Sums.{chain, logs_from}

module _ (A : Arithmetic) where
  abbrev pub at : List A.Num → ℕ → A.Num
  at l i = get_or l i A.zero

  -- the first n cells of a row: cell c is b c less the products of the cells before it with row c of L, divided by the pivot
  unfoldable pub forward : (b : ℕ → A.Num) (L : ℕ → ℕ → A.Num) → ℕ → List A.Num
  forward b L zero = []
  forward b L (suc c) =
      let row = forward b L c in
      row ++ (A.over (chain A (b c) (at row) (L c) c) (L c c) ∷ [])

  -- row r of the factor left of its pivot, and what is left for the pivot, given the rows before
  abbrev pub left_of_pivot : (b : ℕ → ℕ → A.Num) (L : ℕ → ℕ → A.Num) → ℕ → List A.Num
  left_of_pivot b L r = forward (b r) L r

  abbrev pub radicand_of : (b : ℕ → ℕ → A.Num) (L : ℕ → ℕ → A.Num) → ℕ → A.Num
  radicand_of b L r = let row = left_of_pivot b L r in chain A (b r r) (at row) (at row) r

  -- cell (r, c) of rows that are listed
  abbrev pub cell_of : List (List A.Num) → ℕ → ℕ → A.Num
  cell_of l r c = at (get_or l r []) c

  -- the next row of the factor: its cells left of the pivot, and the pivot
  abbrev pub row_of : (b : ℕ → ℕ → A.Num) (L : ℕ → ℕ → A.Num) → ℕ → List A.Num
  row_of b L r = left_of_pivot b L r ++ (A.root (radicand_of b L r) ∷ [])

  -- the first n rows of the factor of the triangle b
  unfoldable pub rows : (b : ℕ → ℕ → A.Num) → ℕ → List (List A.Num)
  rows b zero = []
  rows b (suc r) =
      let before = rows b r in
      before ++ (row_of b (cell_of before) r ∷ [])

  abbrev pub factor : (b : ℕ → ℕ → A.Num) → ℕ → ℕ → ℕ → A.Num
  factor b n = cell_of (rows b n)

  -- what the root of pivot r is taken of
  abbrev pub radicand : (b : ℕ → ℕ → A.Num) → ℕ → A.Num
  radicand b r = radicand_of b (factor b r) r

  abbrev pub next : Option ℕ → Bool → ℕ → Option ℕ
  next (some q) bad r = some q
  next none true r = some r
  next none false r = none

  -- the row of the first of n pivots whose radicand is bad, if there is one
  unfoldable pub first_bad : (bad : A.Num → Bool) (radicand : ℕ → A.Num) → ℕ → Option ℕ
  first_bad bad g zero = none
  first_bad bad g (suc r) = next (first_bad bad g r) (bad (g r)) r

  -- C refuses a radicand that is at most 0, and lets NaN pass (26); the finish refuses one that is not above 0, NaN included (27)
  abbrev pub pivots : (radicand : ℕ → A.Num) → ℕ → Option ℕ
  pivots g n = first_bad A.refused g n

  abbrev pub finish_pivots : (radicand : ℕ → A.Num) → ℕ → Option ℕ
  finish_pivots g n = first_bad (λ x. not (A.above x)) g n

  -- The logarithms' sum: C(0) adds its logarithms one by one to the running sum; C(j), 0 < j < k, sums its own from 0.0 and adds that sum.
  abbrev pub logs_of_first : A.Num → (ℕ → A.Num) → ℕ → A.Num
  logs_of_first s pivot n = logs_from A s pivot n

  abbrev pub logs_of_later : A.Num → (ℕ → A.Num) → ℕ → A.Num
  logs_of_later s pivot n = A.plus s (logs_from A A.zero pivot n)

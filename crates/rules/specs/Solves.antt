-- The solves of Record 7 (`forward_solve_ld`, `backward_solve_ld`), block by block. v is a block of the right side, w a block that is solved already.
use Rattle.std.specs.Prelude.{ℕ, zero, suc, ◌+◌, ◌-◌, not, ◌&&◌, List, [], ◌∷◌, eqb}
use Rattle.rules.specs.Arithmetic.{Arithmetic}
use Rattle.rules.specs.Sums.{dot, chain, subtract_from}
use Rattle.rules.specs.Cholesky.{at}

module _ (A : Arithmetic) where
  -- Going forward, less a dense cross block times w: summed from 0.0, subtracted once.
  abbrev pub matvec_sub : (x : ℕ → ℕ → A.Num) (w v : ℕ → A.Num) → ℕ → ℕ → A.Num
  matvec_sub x w v cols r = A.minus (v r) (dot A (x r) w cols)

  -- Less a sparse one: product by product, and a source of ±0 is skipped.
  abbrev pub sparse_matvec_sub : (row : ℕ → ℕ) (x w v : ℕ → A.Num) → ℕ → ℕ → A.Num
  sparse_matvec_sub row x w v cols r = subtract_from A (v r) (λ c. eqb (row c) r && not (A.null (w c))) x w cols

  -- Going backward, less the transpose of a dense one, and of a sparse one: both summed from 0.0 and subtracted once.
  abbrev pub matvec_t_sub : (x : ℕ → ℕ → A.Num) (w v : ℕ → A.Num) → ℕ → ℕ → A.Num
  matvec_t_sub x w v rows c = A.minus (v c) (dot A (λ r. x r c) w rows)

  abbrev pub sparse_matvec_t_sub : (row : ℕ → ℕ) (x w v : ℕ → A.Num) → ℕ → A.Num
  sparse_matvec_t_sub row x w v c = A.minus (v c) (A.plus A.zero (A.times (x c) (w (row c))))

  -- Backward substitution with a triangle of n rows: the last `done` cells, the lowest first in the list. Cell n - 1 - done comes next:
  -- less product by product, index rising, then the division.
  unfoldable pub backward : (v : ℕ → A.Num) (L : ℕ → ℕ → A.Num) → ℕ → ℕ → List A.Num
  backward v L n zero = []
  backward v L n (suc done) =
      let rest = backward v L n done in
      let i = n - suc done in
      A.over (chain A (v i) (λ x. L (i + suc x) i) (at A rest) done) (L i i) ∷ rest

-- What the calls on a diagonal block and its factor answer and leave (document 01, Records 4 and 7), over the whole list w that holds the block: the
-- block's cells become the rule's, and every other double stays.
use Rattle.std.specs.Prelude.{ℕ, ◌≡◌, cond, List, eqb, Float}
use Rattle.std.proofs.Math.Option.{Option}
use Rattle.storage.specs.Runs.{tab}
use Rattle.storage.specs.Part.{store}
use Rattle.storage.specs.declared.Block.{Block}
use Rattle.storage.specs.Placed.{Placed, block_of, as_triangle, as_diagonal, Lies, Apart, read, put}
use Rattle.rules.specs.Arithmetic.{ieee}
use Rattle.rules.specs.Begin.{diagonal_cell}
use Rattle.rules.specs.Cholesky.{forward, radicand, pivots, logs_of_first, logs_of_later}
use Rattle.rules.specs.Solves.{backward}
use Rattle.re_lower.specs.Lower.{Pivots, answer_of, left_of_triangle, left_of_diagonal}
use Rattle.block_runs.specs.blocks.Blocks.{entry}

-- pivot r of a block
abbrev pub pivot_at : Placed → List Float → ℕ → Float
pivot_at p w r = read p w r r

-- ---- Record 4, begin
-- what was loaded for block b: its diagonal alone, from `src` on
abbrev pub loaded_of : Block → ℕ → Placed
loaded_of b src = as_diagonal (block_of src b.rows b.cols)

-- a block p and the loaded one d lie within n doubles, and apart
abbrev pub Begins : ℕ → Placed → Placed → Type 0
Begins n p d = Lies n p × Lies n d × Apart p d

-- cell (r, c) is (t·t)·a + 1 on the diagonal, where a is loaded pivot r, and 0 beside it
abbrev pub scaled_cell : Placed → Float → List Float → ℕ → ℕ → Float
scaled_cell d t w r c = cond (eqb r c) (diagonal_cell ieee t (pivot_at d w r)) ieee.zero

-- block p, begun
abbrev pub scaled : Placed → Placed → Float → List Float → List Float
scaled p d t w = put p (scaled_cell d t w) w

-- ---- Record 4, C: the answer p for the first pivot that is refused, and the list w' where `left` stands at off for what stood there
pub record Factored (first : Option ℕ) (left : Pivots → List Float) (off : ℕ) (w w' : List Float) (p : Pivots) : Type 0 where
  pub answer : p ≡ answer_of first
  pub exit : w' ≡ store off (left p) w

-- C on a packed triangle, and on a diagonal
abbrev pub TriangleFactored : Block → (w w' : List Float) → Pivots → Type 0
TriangleFactored b w w' p =
    Factored (pivots ieee (radicand ieee (read (as_triangle b) w)) b.rows) (left_of_triangle (read (as_triangle b) w) b.rows) b.at w w' p

abbrev pub DiagonalFactored : Block → (w w' : List Float) → Pivots → Type 0
DiagonalFactored b w w' p =
    Factored (pivots ieee (pivot_at (as_diagonal b) w) b.rows) (left_of_diagonal (pivot_at (as_diagonal b) w) b.rows) b.at w w' p

-- ---- Record 4, the logarithms of n pivots: added one by one to x, as C(0) does; or summed from 0.0 and added at once, as a later C does
abbrev pub logs_first : Placed → ℕ → Float → List Float → Float
logs_first p n x w = logs_of_first ieee x (pivot_at p w) n

abbrev pub logs_later : Placed → ℕ → Float → List Float → Float
logs_later p n x w = logs_of_later ieee x (pivot_at p w) n

-- ---- Record 7: as many entries of v, from z on, as the factor b of w has rows, solved with it, forward and backward
abbrev pub solved_forward : ℕ → Block → (w v : List Float) → List Float
solved_forward z b w v = store z (forward ieee (entry z b.rows v) (read (as_triangle b) w) b.rows) v

abbrev pub solved_backward : ℕ → Block → (w v : List Float) → List Float
solved_backward z b w v = store z (backward ieee (entry z b.rows v) (read (as_triangle b) w) b.rows b.rows) v

-- with a diagonal factor, either way: each entry divided by its pivot
abbrev pub divided : ℕ → Block → (w v : List Float) → List Float
divided z b w v = store z (tab b.rows (λ i. ieee.over (entry z b.rows v i) (pivot_at (as_diagonal b) w i))) v

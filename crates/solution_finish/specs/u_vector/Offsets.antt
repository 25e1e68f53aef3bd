-- u (document 01, Record 7): w of y less the sum over the columns of w times beta, which the list begins with.
use Rattle.std.specs.Prelude.{ℕ, ◌+◌, ◌*◌, List, Float}
use Rattle.rules.specs.Arithmetic.{ieee}
use Rattle.rules.specs.Sums.{dot}
use Rattle.block_runs.specs.axpy.Axpy.{at, run}

-- the first n of the products of beta with the doubles that lie q apart from `from` on, summed from 0.0
abbrev pub row_sum : (v : List Float) (from q n : ℕ) → Float
row_sum v from q n = dot ieee (λ j. at v (from + j * q)) (at v) n

-- the q doubles from u on: w of y from wy on, less the columns from `first` on times beta
abbrev pub offsets_left : (u wy first q p : ℕ) → List Float → List Float
offsets_left u wy first q p v = run u q (λ i. ieee.minus (at v (wy + i)) (row_sum v (first + i) q p)) v

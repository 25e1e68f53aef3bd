-- The factor of the fixed effects' triangle (document 01, Record 7 and refusal 27).
use Rattle.std.specs.Prelude.{ℕ, ◌≡◌, Bool, not, List, Float, Ok}
use Rattle.storage.specs.Shape.{packed, fill}
use Rattle.storage.specs.Part.{store}
use Rattle.storage.specs.Placed.{Placed, block_of, as_triangle}
use Rattle.rules.specs.Arithmetic.{ieee}
use Rattle.rules.specs.Cholesky.{factor, radicand, first_bad, finish_pivots}
use Rattle.re_lower.specs.Lower.{Pivots, answer_of}
use Rattle.block_runs.specs.blocks.Blocks.{block}
use Rattle.re_factor.specs.Factor.{pivot_at}

-- the packed triangle of n rows at off
abbrev pub triangle_at : (off n : ℕ) → Placed
triangle_at off n = as_triangle (block_of off n n)

-- not above 0, NaN included
abbrev pub not_above : Float → Bool
not_above x = not (ieee.above x)

-- the answer for the n pivots of the packed triangle at off, as they stand
abbrev pub first_not_above : (off n : ℕ) → List Float → Pivots
first_not_above off n v = answer_of (first_bad ieee not_above (pivot_at (triangle_at off n) v) n)

-- the answer for the first pivot that is not above 0, and where there is none the factor in the place of the packed triangle at off
pub record FixedFactored (off n : ℕ) (v v' : List Float) (p : Pivots) : Type 0 where
  pub answer : p ≡ answer_of (finish_pivots ieee (radicand ieee (block off (packed n) v)) n)
  pub exit : p ≡ Ok tt → v' ≡ store off (fill (packed n) (factor ieee (block off (packed n) v) n)) v

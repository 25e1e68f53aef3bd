-- C's answer as a number: n where every pivot is accepted, else the row of the refused one.
use Rattle.std.specs.Prelude.{ℕ, ◌≡◌, List, Float, Ok, Err}
use Rattle.re_lower.specs.Lower.{Pivots, TriangleDone, DiagonalDone}

abbrev pub number_of : ℕ → Pivots → ℕ
number_of n (Ok x) = n
number_of n (Err x) = x.row

-- C on a packed triangle and on a diagonal, by an answer whose number is k
pub record TriangleAnswered (t t' : List Float) (n k : ℕ) : Type 0 where
  pub answer : Pivots
  pub left : TriangleDone t t' n answer
  pub number_is : k ≡ number_of n answer

pub record DiagonalAnswered (t t' : List Float) (n k : ℕ) : Type 0 where
  pub answer : Pivots
  pub left : DiagonalDone t t' n answer
  pub number_is : k ≡ number_of n answer

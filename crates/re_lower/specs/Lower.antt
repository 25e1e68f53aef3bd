-- What the calls on one block make of its list (document 01, Record 4, C, T and the logarithms): the rules of `rules` at the shapes of `storage`.
use Rattle.std.specs.Prelude.{ℕ, suc, ◌+◌, ◌-◌, ◌≡◌, List, [], ◌∷◌, ◌++◌, Float, Result, Ok, Err, length}
use Rattle.std.proofs.Math.Option.{Option, none, some}
use Rattle.storage.specs.Shape.{packed, diagonal, fill, cell, place_of}
use Rattle.storage.specs.Part.{store}
use Rattle.rules.specs.Arithmetic.{ieee}
use Rattle.rules.specs.Sums.{chain, logs_from}
use Rattle.rules.specs.Cholesky.{at, forward, left_of_pivot, factor, radicand, pivots}
use Rattle.rules.specs.Solves.{backward}
use Rattle.re_lower.specs.declared.RefusedPivot.{RefusedPivot}

-- cell (r, c) of the packed triangle that a list begins with: where it lies does not depend on how many rows there are
abbrev pub lower : List Float → ℕ → ℕ → Float
lower t r c = cell ieee.zero (packed r) t r c

-- the list with v as its cell (r, c)
abbrev pub with_cell : List Float → ℕ → ℕ → Float → List Float
with_cell t r c v = store (place_of (packed r) r c) (v ∷ []) t

-- pivot r of the diagonal that a list begins with
abbrev pub pivot : List Float → ℕ → Float
pivot t r = cell ieee.zero (diagonal r) t r r

-- s less the products of the doubles of x with those of y, one by one
abbrev pub chain_of : Float → List Float → List Float → Float
chain_of s x y = chain ieee s (at ieee x) (at ieee y) (length x)

-- s less the products of n cells of t from a on with those of l from b on, one by one
abbrev pub chained : Float → List Float → ℕ → List Float → ℕ → ℕ → Float
chained s t a l b n = chain ieee s (λ y. at ieee t (a + y)) (λ y. at ieee l (b + y)) n

-- row r, from `from` on, left of its pivot, solved with the rows above it; all else as it was
abbrev pub left_of_pivot_done : List Float → ℕ → ℕ → List Float
left_of_pivot_done t from r = store from (forward ieee (λ c. at ieee t (from + c)) (lower t) r) t

-- what C answers: that every pivot is accepted, or the first that is not
abbrev pub Pivots : Type 0
Pivots = Result Unit RefusedPivot

-- the answer for the first pivot that is refused, if there is one
abbrev pub answer_of : Option ℕ → Pivots
answer_of none = Ok tt
answer_of (some r) = Err (record { row = r })

-- what C leaves where the triangle b of n rows stood: its factor; or the factor's rows before the refused one, and that row left of its pivot
abbrev pub left_of_triangle : (ℕ → ℕ → Float) → ℕ → Pivots → List Float
left_of_triangle b n (Ok x) = fill (packed n) (factor ieee b n)
left_of_triangle b n (Err x) = fill (packed x.row) (factor ieee b x.row) ++ left_of_pivot ieee b (factor ieee b x.row) x.row

-- C on the packed triangle of n rows that t begins with: the answer p and the list t' that is left. All behind the triangle is as it was.
pub record TriangleDone (t t' : List Float) (n : ℕ) (p : Pivots) : Type 0 where
  pub answer : p ≡ answer_of (pivots ieee (radicand ieee (cell ieee.zero (packed n) t)) n)
  pub left : t' ≡ store 0 (left_of_triangle (cell ieee.zero (packed n) t) n p) t

-- what C leaves of a diagonal: its roots, or those before the refused one
abbrev pub left_of_diagonal : (ℕ → Float) → ℕ → Pivots → List Float
left_of_diagonal d n (Ok x) = fill (diagonal n) (λ r c. ieee.root (d r))
left_of_diagonal d n (Err x) = fill (diagonal x.row) (λ q c. ieee.root (d q))

-- C on the diagonal of n cells that t begins with
pub record DiagonalDone (t t' : List Float) (n : ℕ) (p : Pivots) : Type 0 where
  pub answer : p ≡ answer_of (pivots ieee (λ r. cell ieee.zero (diagonal n) t r r) n)
  pub left : t' ≡ store 0 (left_of_diagonal (λ r. cell ieee.zero (diagonal n) t r r) n p) t

-- s and the logarithms of n pivots, of a packed factor and of a diagonal
abbrev pub logs_of_triangle : List Float → ℕ → Float → Float
logs_of_triangle t n s = logs_from ieee s (λ r. cell ieee.zero (packed n) t r r) n

abbrev pub logs_of_diagonal : List Float → ℕ → Float → Float
logs_of_diagonal t n s = logs_from ieee s (λ r. cell ieee.zero (diagonal n) t r r) n

-- the row of n cells that t begins with, solved with the packed factor l; all behind it as it was
abbrev pub row_solved : List Float → List Float → ℕ → List Float
row_solved t l n = store 0 (forward ieee (at ieee t) (cell ieee.zero (packed n) l) n) t

-- s less the products of column i of the packed factor l, below its pivot, with the cells of t from i + 1 to n - 1, one by one
abbrev pub below_pivot : Float → List Float → List Float → ℕ → ℕ → Float
below_pivot s l t i n = chain ieee s (λ x. lower l (i + suc x) i) (λ x. at ieee t (i + suc x)) (n - suc i)

-- the n cells that t begins with, solved backward with the packed factor l (document 01, Record 7); all behind them as it was
abbrev pub back_solved : List Float → List Float → ℕ → List Float
back_solved t l n = store 0 (backward ieee (at ieee t) (cell ieee.zero (packed n) l) n n) t

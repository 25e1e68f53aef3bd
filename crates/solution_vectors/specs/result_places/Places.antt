-- Where each part of the result list starts (document 01, Record 7): beta, b, u, L_X by rows, w of y, w of each column.
use Rattle.std.specs.Prelude.{ℕ, ◌+◌, ◌*◌, ◌≤◌, suc, ◌≡◌, cond, List, eqb, Float}
use Rattle.storage.specs.Runs.{start, triangle, tab}
use Rattle.storage.specs.Shape.{packed, fill}
use Rattle.storage.specs.Part.{part}
use Rattle.rules.specs.Arithmetic.{ieee}
use Rattle.rules.specs.Sums.{dot}
use Rattle.rules.specs.Cholesky.{at}
use Rattle.layout.specs.declared.Layout.{Layout}
use Rattle.profile.specs.Finish.{v_of, w_of, cross_product, fixed_triangle, fixed_rhs}
use Rattle.layout.specs.Shapes.{last_rows, response_row}

abbrev pub b_at : Layout → ℕ
b_at y = y.p

abbrev pub u_at : Layout → ℕ
u_at y = y.p + y.q

abbrev pub lx_at : Layout → ℕ
lx_at y = y.p + y.q + y.q

-- w of y stands right behind L_X
abbrev pub response_at : Layout → ℕ
response_at y = lx_at y + start triangle y.p

-- w of row r of the fixed rows, the response's first
abbrev pub w_at : Layout → ℕ → ℕ
w_at y r = cond (eqb r (response_row y)) (response_at y) (response_at y + y.q + r * y.q)

-- how many doubles there are in all
abbrev pub result_length_of : Layout → ℕ
result_length_of y = response_at y + y.q + y.p * y.q

module _ (h : List ℕ) (w : List Float) (y : Layout) where
  -- the first n of the w stand in their places, rows 0 to p - 1, then the response's
  abbrev pub Solved : (n : ℕ) → List Float → Type 0
  Solved n v = (r : ℕ) → suc r ≤ n → part (w_at y r) y.q v ≡ w_of h w r

  -- X'X - V'W in the place of L_X, the right side in the place of beta, and y'y less v of y times w of y
  pub record Products (v : List Float) (r : Float) : Type 0 where
    pub solved : Solved (last_rows y) v
    pub triangle : part (lx_at y) (start triangle y.p) v ≡ fill (packed y.p) (fixed_triangle h w)
    pub right : part 0 y.p v ≡ tab y.p (fixed_rhs h w)
    pub rest : r ≡ ieee.minus (cross_product h w (response_row y) (response_row y)) (dot ieee (at ieee (v_of h w (response_row y))) (at ieee (w_of h w (response_row y))) y.q)

-- The solution (document 01, Record 7; `solve_profile_blocked`, `solve_profile_finish`).
use Rattle.std.specs.Prelude.{ℕ, zero, suc, ◌+◌, ◌*◌, ◌/◌, Bool, cond, List, [], ◌∷◌, ◌++◌, eqb, length, Float, Result, Ok, Err}
use Rattle.std.proofs.Math.Option.{Option, none, some}
use Rattle.std.proofs.Math.ListN.{replicate}
use Rattle.storage.specs.Runs.{tab}
use Rattle.rules.specs.Arithmetic.{ieee}
use Rattle.rules.specs.Sums.{dot}
use Rattle.rules.specs.Cholesky.{at, forward, rows, cell_of as entry_of, radicand, finish_pivots}
use Rattle.rules.specs.Solves.{backward}
use Rattle.rules.specs.Finish.{deviance_of, fixed_cross, residual, offset_of}
use Rattle.layout.specs.declared.Layout.{Layout}
use Rattle.refusal.specs.declared.Refusal.{Refusal}
use Rattle.refusal.specs.declared.Numbers.{Numbers}
use Rattle.refusal.specs.Numbers.{numbers_of, refusal, no_refusal}
use Rattle.layout.specs.Shapes.{pick, block_rows, last_shape, response_row, sheet_index}
use Rattle.heading_format.specs.Heading.{layout_of, progress_of, valid_heading}
use Rattle.workspace.specs.Memory.{cell_of, loaded_block, theta_of}
use Rattle.profile.specs.declared.Solution.{Solution}
use Rattle.profile.specs.Deviance.{is_finished, freedom, log_determinant}
use Rattle.profile.specs.Solves.{block_in, solved_for, scaled_row}

-- WHAT AN ANSWER MEANS (document 01: "That definition gives this paper's number and values for each of the enum's cases"): number and places, 0 where it is a
-- solution, and the two scalars of one.
pub record SolveMeaning : Type 0 where
  pub refusal : Numbers
  pub solution : Option Solution

abbrev pub solve_meaning : Result Solution Refusal → SolveMeaning
solve_meaning (Ok s) = record { refusal = no_refusal; solution = some s }
solve_meaning (Err r) = record { refusal = numbers_of r; solution = none }

-- the sorted block that has sheet index i, among the first n
unfoldable pub sorted_index : Layout → ℕ → ℕ → ℕ
sorted_index y zero i = 0
sorted_index y (suc s) i = let rest = sorted_index y s i in cond (eqb (sheet_index y s) i) s rest

-- the first n blocks of the sheet, one after the other
unfoldable pub in_sheet_order : Layout → List (List Float) → ℕ → List Float
unfolding sorted_index
in_sheet_order y l zero = []
in_sheet_order y l (suc i) = in_sheet_order y l i ++ block_in l (sorted_index y y.k i)

-- the rows of a list of rows, one after the other
unfoldable pub flattened : List (List Float) → List Float
flattened [] = []
flattened (x ∷ l) = x ++ flattened l

-- how long the lent result list is
abbrev pub result_length : Layout → ℕ
result_length y = y.p + 2 * y.q + y.p * (y.p + 1) / 2 + y.q * (y.p + 1)

module _ (h : List ℕ) (w : List Float) where
  -- v and w of row r of block k, in sheet order
  unfoldable pub v_of : ℕ → List Float
  unfolding in_sheet_order scaled_row
  v_of r = in_sheet_order (layout_of h) (scaled_row h w r) (layout_of h).k

  unfoldable pub w_of : ℕ → List Float
  unfolding in_sheet_order solved_for scaled_row
  w_of r = in_sheet_order (layout_of h) (solved_for h w (scaled_row h w r)) (layout_of h).k

  -- theta of each sheet row
  unfoldable pub theta_rows : List Float
  unfolding in_sheet_order
  theta_rows = let y = layout_of h in in_sheet_order y (tab y.k (λ j. replicate (block_rows y j) (theta_of h w j))) y.k

  -- cell (i, j) of the loaded triangle: X'X, and X'y and y'y in the response's row
  abbrev pub cross_product : ℕ → ℕ → Float
  cross_product i j = cell_of (last_shape (layout_of h)) (loaded_block h w (layout_of h).k (layout_of h).k) i j

  -- X'X - V'W, its factor L_X by rows, and the row of a pivot that is not above 0
  unfoldable pub fixed_triangle : ℕ → ℕ → Float
  unfolding v_of w_of
  fixed_triangle i j = fixed_cross ieee cross_product (λ a x. at ieee (v_of a) x) (λ b x. at ieee (w_of b) x) (layout_of h).q i j

  unfoldable pub fixed_factor : List (List Float)
  unfolding fixed_triangle
  fixed_factor = rows ieee fixed_triangle (layout_of h).p

  unfoldable pub refused_row : Option ℕ
  unfolding fixed_triangle
  refused_row = finish_pivots ieee (radicand ieee fixed_triangle) (layout_of h).p

  -- the right side of beta, and beta: forward, then back substitution
  unfoldable pub fixed_rhs : ℕ → Float
  unfolding v_of w_of
  fixed_rhs j = let y = layout_of h in ieee.minus (cross_product (response_row y) j) (dot ieee (at ieee (v_of j)) (at ieee (w_of (response_row y))) y.q)

  unfoldable pub beta : List Float
  unfolding fixed_factor fixed_rhs
  beta =
      let p = (layout_of h).p in
      let L = entry_of ieee fixed_factor in
      backward ieee (at ieee (forward ieee fixed_rhs L p)) L p p

  -- sigma2 = r2 / d, not tested
  unfoldable pub sigma2 : Bool → Float
  unfolding v_of w_of beta fixed_rhs
  sigma2 reml =
      let y = layout_of h in
      let r = response_row y in
      let r2 = residual ieee (cross_product r r) (at ieee (v_of r)) (at ieee (w_of r)) y.q (at ieee beta) fixed_rhs y.p in
      ieee.over r2 (freedom y reml)

  unfoldable pub solution_of : Bool → Solution
  unfolding sigma2 fixed_factor
  solution_of reml =
      let y = layout_of h in
      record {
        deviance = deviance_of ieee reml (freedom y reml) (sigma2 reml) (log_determinant h w) (λ i. entry_of ieee fixed_factor i i) y.p;
        sigma2 = sigma2 reml;
      }

  -- u, and b = theta times u, by sheet rows
  unfoldable pub u_vector : List Float
  unfolding w_of beta
  u_vector = let y = layout_of h in tab y.q (offset_of ieee (at ieee (w_of (response_row y))) (λ j x. at ieee (w_of j) x) (at ieee beta) y.p)

  unfoldable pub b_vector : List Float
  unfolding u_vector theta_rows
  b_vector = tab (layout_of h).q (λ i. ieee.times (at ieee theta_rows i) (at ieee u_vector i))

  -- beta, b, u, L_X by rows, w of y, w of each column
  unfoldable pub result_list : List Float
  unfolding beta b_vector u_vector fixed_factor flattened w_of
  result_list = let y = layout_of h in beta ++ b_vector ++ u_vector ++ flattened fixed_factor ++ w_of (response_row y) ++ flattened (tab y.p w_of)

-- an answer, and the result list that it leaves; the workspace is untouched
pub record Solving : Type 0 where
  pub answer : Result Solution Refusal
  pub result : List Float

abbrev pub refusing : ℕ → ℕ → List Float → Solving
refusing n a r = record { answer = Err (refusal n a 0); result = r }

-- 27 leaves the whole result list +0.0
abbrev pub on_pivot : Option ℕ → ℕ → Solving → Solving
on_pivot none n good = good
on_pivot (some r) n good = refusing 27 r (replicate n ieee.zero)

-- 20, 25, 13 (list 0, the result list), 27
unfoldable pub solve_of : List ℕ → List Float → Bool → List Float → Solving
unfolding valid_heading refused_row solution_of result_list
solve_of h w reml out =
    pick (valid_heading h (length w))
    (pick (is_finished (progress_of h).state)
    (pick (eqb (length out) (result_length (layout_of h)))
    (on_pivot (refused_row h w) (length out) (record { answer = Ok (solution_of h w reml); result = result_list h w })) (refusing 13 0 out))
    (refusing 25 0 out))
    (refusing 20 0 out)

-- How far X'X less V'W and the right side of beta are made, row by row (document 01, Record 7).
use Rattle.std.specs.Prelude.{ℕ, ◌+◌, ◌≤◌, ◌<◌, ◌≡◌, List, length, Float}
use Rattle.storage.specs.Runs.{start, triangle}
use Rattle.block_runs.specs.axpy.Axpy.{at}
use Rattle.layout.specs.declared.Layout.{Layout}
use Rattle.profile.specs.Finish.{cross_product, fixed_triangle, fixed_rhs}
use Rattle.solution_vectors.specs.result_places.Places.{lx_at, result_length_of, Solved}
use Rattle.layout.specs.Shapes.{last_rows, response_row}

-- n rows in the place of L_X, and as many entries in the place of beta, are made; the rest is as it was loaded
pub record Fixing (h : List ℕ) (w : List Float) (y : Layout) (n : ℕ) (v : List Float) : Type 0 where
  pub within : n ≤ y.p
  pub long : length v ≡ result_length_of y
  pub solved : Solved h w y (last_rows y) v
  pub made : (i j : ℕ) → i < n → j ≤ i → at v (lx_at y + (start triangle i + j)) ≡ fixed_triangle h w i j
  pub loaded : (i j : ℕ) → n ≤ i → i < y.p → j ≤ i → at v (lx_at y + (start triangle i + j)) ≡ cross_product h w i j
  pub right : (j : ℕ) → j < n → at v j ≡ fixed_rhs h w j
  pub other : (j : ℕ) → n ≤ j → j < y.p → at v j ≡ cross_product h w (response_row y) j

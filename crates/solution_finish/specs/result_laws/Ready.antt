-- A result list once X'X - V'W has a factor (document 01, Record 7): w of every row, L_X, and the right side in the place of beta.
use Rattle.std.specs.Prelude.{ℕ, ◌≡◌, List, length, Float}
use Rattle.storage.specs.Runs.{start, triangle, tab}
use Rattle.storage.specs.Part.{part}
use Rattle.layout.specs.declared.Layout.{Layout}
use Rattle.profile.specs.Finish.{flattened, fixed_factor, fixed_rhs}
use Rattle.solution_vectors.specs.result_places.Places.{lx_at, result_length_of, Solved}
use Rattle.layout.specs.Shapes.{last_rows}

pub record Ready (h : List ℕ) (w : List Float) (y : Layout) (v : List Float) : Type 0 where
  pub long : length v ≡ result_length_of y
  pub solved : Solved h w y (last_rows y) v
  pub factor : part (lx_at y) (start triangle y.p) v ≡ flattened (fixed_factor h w)
  pub right : part 0 y.p v ≡ tab y.p (fixed_rhs h w)
